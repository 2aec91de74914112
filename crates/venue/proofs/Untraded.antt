-- What is known of trades that came before, and that an acceptance which is carried out trades on its request.
-- Assumes nothing.
use Rattle.std.proofs.Common.{◌≡◌, ℕ, zero, suc, ◌+◌, ◌-◌, ◌≤◌, true, false, not, leb, List, [], ◌∷◌, ◌++◌, get_or, set, Ok, Err, Result, sym, ap, ◌∙◌, arith}
use Rattle.std.specs.List.{AllByRecursion as Every}
use Rattle.std.proofs.lemmas.Bool.{both_ways, and_parts, or_parts, not-false, leb-true, ltb-false}
use Rattle.records.specs.declared.causes.Refusal.{Refusal}
use Rattle.records.proofs.Unless.{granted}
use Rattle.venue.specs.declared.rows.Acceptance.{Acceptance}
use Rattle.venue.specs.declared.rows.Trade.{Trade}
use Rattle.venue.specs.Days.{Day, numbered, no_trade}
use Rattle.venue.specs.Trading.{renumbered, total}
use Rattle.venue.specs.Calls.{Call, Call.enter, Call.offer, Call.pull, Call.cancel, Call.accept, Call.file, Call.post, Call.move_clock, Call.ask_price, Call.view, Call.book, Call.close, causes, amount, floor_of, no_such_user, member, fills_of}
use Rattle.venue.specs.Model.{Reply, judge, answer, apply, next_by, next, after, filed, filed_trade}
use Rattle.venue.specs.Quantities.{Good}
use Rattle.venue.specs.TwoDays.{Untraded}
use Rattle.venue.proofs.Dealing.{all_by, new_good}
use Rattle.venue.proofs.Replies.{judged}

module _ {X : Type 0} (P : X → Type 0) where
  all_front : (xs ys : List X) → Every P (xs ++ ys) → Every P xs
  all_front [] ys h = tt
  all_front (x ∷ xs) ys h = (h.0, all_front xs ys h.1)

  all_back : (xs ys : List X) → Every P (xs ++ ys) → Every P ys
  all_back [] ys h = h
  all_back (x ∷ xs) ys h = all_back xs ys h.1

-- trades are added and marked, and none is taken away: what holds of all later held of all before
module _ (P : Trade → Type 0) (f : (t : Trade) → P (filed_trade t) → P t) where
  before_set : (ts : List Trade) (i : ℕ) → Every P (set ts i (filed_trade (get_or ts i no_trade))) → Every P ts
  before_set [] i h = tt
  before_set (t ∷ ts) zero h = (f t h.0, h.1)
  before_set (t ∷ ts) (suc i) h = (h.0, before_set ts i h.1)

  before_mark : (ts : List Trade) (n : ℕ) → Every P (renumbered ts n (filed_trade (numbered no_trade ts n))) → Every P ts
  before_mark ts zero h = h
  before_mark ts (suc i) h = before_set ts i h

  before_filing : (m : ℕ) (ts : List Trade) (t : ℕ) → Every P (filed ts t m) → Every P ts
  before_filing zero ts t h = h
  before_filing (suc m) ts t h = before_mark ts t (before_filing m _ (t + 1) h)

  before_call : (d : Day) (c : Call) → Every P (apply d c).trades → Every P d.trades
  before_call d (enter e) h = h
  before_call d (offer o) h = h
  before_call d (pull u q) h = h
  before_call d (cancel u n) h = h
  before_call d (accept a) h = all_front P d.trades (fills_of d a).trades h
  before_call d (file r) h = before_filing (r.last + 1 - r.first) d.trades r.first h
  before_call d (post p) h = h
  before_call d (move_clock t) h = h
  before_call d (ask_price k) h = h
  before_call d (view u room) h = h
  before_call d (book u n room) h = h
  before_call d close h = h

  before_next : (d : Day) (c : Call) (q : Result Reply Refusal) → Every P (next_by d c q).trades → Every P d.trades
  before_next d c (Ok r) h = before_call d c h
  before_next d c (Err e) h = h

  pub before_calls : (cs : List Call) (d : Day) → Every P (after d cs).trades → Every P d.trades
  before_calls [] d h = h
  before_calls (c ∷ cs) d h = before_next d c (answer d c) (before_calls cs (next d c) h)

module _ (ns : List ℕ) where
  trades_on : (n : ℕ) (ts : List Trade) → member n ns ≡ true → 1 ≤ total ts → Every (λ t. t.request ≡ n) ts → Untraded ns ts → ⊥
  trades_on n [] m h on u = omega arith
  trades_on n (t ∷ ts) m h on u = both_ways (member n ns) (ap (λ k. member k ns) (sym on.0) ∙ u.0) m

  -- the floor is at least 1, and is reached
  pub deals_on : (d : Day) (a : Acceptance) (r : Reply) → answer d (accept a) ≡ Ok r → member a.request ns ≡ true → Untraded ns (apply d (accept a)).trades → ⊥
  deals_on d a r e m u =
      let ts = (fills_of d a).trades in
      let g = (granted (causes d (accept a)) tt tt (judged d (accept a) (judge d (accept a)) r e)).0 in
      let floor = floor_of a.floor in
      let range = or_parts (no_such_user a.user) (not (amount floor)) g.1.1.1.0 in
      let some = leb-true 1 floor (and_parts (leb 1 floor) (leb floor 99999999) (not-false (amount floor) range.1)).0 in
      let reached = ltb-false (total ts) floor g.1.1.1.1.1.1.1.1.1.0 in
      trades_on a.request ts m (omega arith)
      (all_by (Good d a) (λ t. t.request ≡ a.request) ts (λ t k. k.on) (new_good d a r e))
      (all_back (λ t. member t.request ns ≡ false) d.trades ts u)
