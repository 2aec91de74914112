-- Every trade is a good one. Assumes nothing.
use Rattle.std.proofs.Common.{◌≡◌, ℕ, zero, suc, ◌+◌, ◌-◌, ◌≤◌, true, false, cond, not, ◌&&◌, eqb, List, [], ◌∷◌, ◌++◌, map, get_or, set, Some, None, Ok, Err, Option, Result, unwrap_or, sym, refl, ap, ◌∙◌, subst, append_assoc, append-nil, arith, eqb-true}
use Rattle.std.specs.List.{AllByRecursion as Every}
use Rattle.std.proofs.lemmas.Bool.{cond_both, and_parts, or_parts, not-false, leb-true}
use Rattle.records.specs.declared.causes.Refusal.{Refusal}
use Rattle.records.proofs.Unless.{granted}
use Rattle.venue.specs.declared.rows.Acceptance.{Acceptance}
use Rattle.venue.specs.declared.rows.Candidate.{Candidate}
use Rattle.venue.specs.declared.rows.Side.{Side}
use Rattle.venue.specs.declared.rows.Side.TheVariants.{Buy, Sell}
use Rattle.venue.specs.declared.rows.Trade.{Trade}
use Rattle.venue.specs.Days.{Day, numbered, no_trade, request_of, quote_of, buys, is_open, owns}
use Rattle.venue.specs.Trading.{quote_price, limit_price, within_limit, executable, candidate, in_order, renumbered, trade_of_fill}
use Rattle.venue.specs.Calls.{Call, Call.enter, Call.offer, Call.pull, Call.cancel, Call.accept, Call.file, Call.post, Call.move_clock, Call.ask_price, Call.view, Call.book, Call.close, causes, named, member, once, has_inexecutable, fills_of}
use Rattle.venue.specs.Model.{Reply, open_day, judge, answer, apply, next_by, next, after, filed, filed_trade}
use Rattle.venue.specs.Laws.{Turns, Turns.finished, Turns.passed, Turns.traded}
use Rattle.venue.specs.Quantities.{Within, Between, Good, Made, TradesAreGood}
use Rattle.venue.proofs.Filling.{fills_by_turns}
use Rattle.venue.proofs.Replies.{judged}
use Rattle.venue.proofs.Sorting.{all_shuffled, sorted_quotes}

-- what is known of two prices that stand in the right order
pub record Had (side : Side) (price limit : Option ℕ) : Type 0 where
  pub paid : ℕ
  pub bound : ℕ
  pub price_is : price ≡ Some paid
  pub limit_is : limit ≡ Some bound
  pub within : Within side paid bound

had : (side : Side) (price limit : Option ℕ) → within_limit side price limit ≡ true → Had side price limit
had side None limit e = let z : ◌≡◌ {A = ℕ} 0 1 = cc in absurd (omega arith)
had side (Some p) None e = let z : ◌≡◌ {A = ℕ} 0 1 = cc in absurd (omega arith)
had Buy (Some p) (Some l) e = record { paid = p; bound = l; price_is = refl; limit_is = refl; within = leb-true p l e }
had Sell (Some p) (Some l) e = record { paid = p; bound = l; price_is = refl; limit_is = refl; within = leb-true l p e }

sides : (side : Side) (asker user quoter : ℕ) → asker ≡ user → Between side user quoter (cond (buys side) asker quoter) (cond (buys side) quoter asker)
sides Buy asker user quoter e = (e, refl)
sides Sell asker user quoter e = (refl, e)

-- a candidate that may be traded, at its price
abbrev pub Fit : Day → ℕ → Candidate → Type 0
Fit d n c = (executable d n c.quote ≡ true) × (c.price ≡ unwrap_or (quote_price d n c.quote) 0)

module _ (d : Day) (n : ℕ) where
  all_executable : (qs : List ℕ) → has_inexecutable d n qs ≡ false → Every (λ q. executable d n q ≡ true) qs
  all_executable [] h = tt
  all_executable (q ∷ qs) h =
      let p = or_parts (not (executable d n q)) (has_inexecutable d n qs) h in
      (not-false (executable d n q) p.0, all_executable qs p.1)

  all_once : (qs : List ℕ) → Every (λ q. executable d n q ≡ true) qs → Every (λ q. executable d n q ≡ true) (once qs)
  all_once [] h = tt
  all_once (q ∷ qs) h =
      let rest = all_once qs h.1 in
      cond_both (member q qs) (once qs) (q ∷ once qs) (Every (λ k. executable d n k ≡ true)) (λ t. rest) (λ f. (h.0, rest))

  all_fit : (qs : List ℕ) → Every (λ q. executable d n q ≡ true) qs → Every (Fit d n) (map (candidate d n) qs)
  all_fit [] h = tt
  all_fit (q ∷ qs) h = ((h.0, refl), all_fit qs h.1)

  -- the quotes of an acceptance, in order
  pub fit_line : (qs : List ℕ) → has_inexecutable d n qs ≡ false → Every (Fit d n) (in_order d n (once qs))
  fit_line qs h =
      all_shuffled (Fit d n) (map (candidate d n) (once qs)) (in_order d n (once qs)) (sorted_quotes d n (once qs)).1
      (all_fit (once qs) (all_once qs (all_executable qs h)))

module _ (d : Day) (a : Acceptance) (own : (request_of d a.request).requestor ≡ a.user) where
  abbrev n : ℕ
  n = a.request

  good_fill : (c : Candidate) (fill : ℕ) → Fit d n c → (request_of d n).minimum ≤ fill → (quote_of d c.quote).minimum ≤ fill → Good d a (trade_of_fill d n c fill)
  good_fill c fill f least quote_least =
      let q = c.quote in
      let parts = and_parts (is_open (request_of d n).life && ((quote_of d q).live && eqb (quote_of d q).request n)) _ f.0 in
      let stands = and_parts (is_open (request_of d n).life) _ parts.0 in
      let quote = and_parts (quote_of d q).live _ stands.1 in
      let h = had (request_of d n).side (quote_price d n q) (limit_price d n) (and_parts (within_limit (request_of d n).side (quote_price d n q) (limit_price d n)) _ parts.1).0 in
      let paid : c.price ≡ h.paid = f.1 ∙ ap (λ o. unwrap_or o 0) h.price_is in
      record {
        on = refl;
        own = own;
        open_then = stands.0;
        live = quote.0;
        quoted = eqb-true (quote_of d q).request n quote.1;
        least = least;
        quote_least = quote_least;
        priced = h.price_is ∙ ap Some (sym paid);
        limit = h.bound;
        limited = h.limit_is;
        within = subst (λ p. Within (request_of d n).side p h.bound) (sym paid) h.within;
        between = sides (request_of d n).side (request_of d n).requestor a.user (quote_of d q).user own;
      }

  good_turns : (o : ℕ) (rs : List ℕ) (cs : List Candidate) (ts : List Trade) (o' : ℕ) (rs' : List ℕ) → Turns d n o rs cs ts o' rs' → Every (Fit d n) cs → Every (Good d a) ts
  good_turns o rs cs ts o' rs' (finished _ _) f = tt
  good_turns o rs cs ts o' rs' (passed _ _ c cs' _ _ _ h t) f = good_turns o rs cs' ts o' rs' t f.1
  good_turns o rs cs ts o' rs' (traded _ _ c cs' ts' _ _ h k t) f = (good_fill c _ f.0 h k, good_turns _ _ cs' ts' o' rs' t f.1)

-- what an acceptance that is carried out adds
pub new_good : (d : Day) (a : Acceptance) (r : Reply) → answer d (accept a) ≡ Ok r → Every (Good d a) (fills_of d a).trades
new_good d a r e =
    let g = granted (causes d (accept a)) tt tt (judged d (accept a) (judge d (accept a)) r e) in
    let owned = not-false (owns d a.user a.request) g.0.1.1.1.1.1.0 in
    let own = eqb-true (request_of d a.request).requestor a.user (and_parts (is_open (request_of d a.request).life) _ owned).1 in
    let line = in_order d a.request (once (named a.quotes)) in
    good_turns d a own _ _ line _ _ _ (fills_by_turns d a.request line) (fit_line d a.request (named a.quotes) g.0.1.1.1.1.1.1.0)

pub all_by : {X : Type 0} (P Q : X → Type 0) (xs : List X) → ((x : X) → P x → Q x) → Every P xs → Every Q xs
all_by P Q [] f h = tt
all_by P Q (x ∷ xs) f h = (f x h.0, all_by P Q xs f h.1)

pub all_append : {X : Type 0} (P : X → Type 0) (xs ys : List X) → Every P xs → Every P ys → Every P (xs ++ ys)
all_append P [] ys h k = k
all_append P (x ∷ xs) ys h k = (h.0, all_append P xs ys h.1 k)

-- a filing keeps what does not look at the mark
module _ (P : Trade → Type 0) (f : (t : Trade) → P t → P (filed_trade t)) where
  all_set : (ts : List Trade) (i : ℕ) → Every P ts → Every P (set ts i (filed_trade (get_or ts i no_trade)))
  all_set [] i h = tt
  all_set (t ∷ ts) zero h = (f t h.0, h.1)
  all_set (t ∷ ts) (suc i) h = (h.0, all_set ts i h.1)

  all_marked : (ts : List Trade) (n : ℕ) → Every P ts → Every P (renumbered ts n (filed_trade (numbered no_trade ts n)))
  all_marked ts zero h = h
  all_marked ts (suc i) h = all_set ts i h

  all_filed : (m : ℕ) (ts : List Trade) (t : ℕ) → Every P ts → Every P (filed ts t m)
  all_filed zero ts t h = h
  all_filed (suc m) ts t h = all_filed m _ (t + 1) (all_marked ts t h)

module _ (start : Day) where
  made_on : (done : List Call) (c : Call) (t : Trade) → Made start done t → Made start (done ++ c ∷ []) t
  made_on done c t m =
      record {
        before = m.before;
        deal = m.deal;
        later = m.later ++ c ∷ [];
        calls = ap (λ l. l ++ c ∷ []) m.calls ∙ append_assoc m.before (accept m.deal ∷ m.later) (c ∷ []);
        reply = m.reply;
        granted = m.granted;
        good = m.good;
      }

  made_filed : (cs : List Call) (t : Trade) → Made start cs t → Made start cs (filed_trade t)
  made_filed cs t m =
      let g = m.good in
      record {
        before = m.before;
        deal = m.deal;
        later = m.later;
        calls = m.calls;
        reply = m.reply;
        granted = m.granted;
        good =
            record {
              on = g.on;
              own = g.own;
              open_then = g.open_then;
              live = g.live;
              quoted = g.quoted;
              least = g.least;
              quote_least = g.quote_least;
              priced = g.priced;
              limit = g.limit;
              limited = g.limited;
              within = g.within;
              between = g.between;
            };
      }

  module _ (done : List Call) where
    abbrev d : Day
    d = after start done

    abbrev Old : Trade → Type 0
    Old = Made start done

    abbrev New : Call → Trade → Type 0
    New c = Made start (done ++ c ∷ [])

    carried : (c : Call) (r : Reply) → answer d c ≡ Ok r → Every (New c) d.trades → Every (New c) (apply d c).trades
    carried (enter x) r e h = h
    carried (offer x) r e h = h
    carried (pull u q) r e h = h
    carried (cancel u k) r e h = h
    carried (accept a) r e h =
        all_append (New (accept a)) d.trades (fills_of d a).trades h
        (all_by (Good d a) (New (accept a)) (fills_of d a).trades
        (λ t g. record { before = done; deal = a; later = []; calls = refl; reply = r; granted = e; good = g })
        (new_good d a r e))
    carried (file p) r e h = all_filed (New (file p)) (made_filed (done ++ file p ∷ [])) (p.last + 1 - p.first) d.trades p.first h
    carried (post p) r e h = h
    carried (move_clock t) r e h = h
    carried (ask_price k) r e h = h
    carried (view u room) r e h = h
    carried (book u k room) r e h = h
    carried close r e h = h

    step : (c : Call) (q : Result Reply Refusal) → answer d c ≡ q → Every Old d.trades → Every (New c) (next_by d c q).trades
    step c (Ok r) e h = carried c r e (all_by Old (New c) d.trades (made_on done c) h)
    step c (Err x) e h = all_by Old (New c) d.trades (made_on done c) h

  after_append : (cs : List Call) (e : Day) (c : Call) → after e (cs ++ c ∷ []) ≡ next (after e cs) c
  after_append [] e c = refl
  after_append (b ∷ cs) e c = after_append cs (next e b) c

  run : (cs done : List Call) → Every (Made start done) (after start done).trades → Every (Made start (done ++ cs)) (after (after start done) cs).trades
  run [] done h = subst (λ l. Every (Made start l) (after start done).trades) (sym (append-nil done)) h
  run (c ∷ cs) done h =
      let one = after_append done start c in
      let here = subst (λ (e : Day). Every (Made start (done ++ c ∷ [])) e.trades) (sym one) (step done c (answer (after start done) c) refl h) in
      let rest = run cs (done ++ c ∷ []) here in
      let moved = subst (λ (e : Day). Every (Made start ((done ++ c ∷ []) ++ cs)) (after e cs).trades) one rest in
      subst (λ l. Every (Made start l) (after (next (after start done) c) cs).trades) (append_assoc done (c ∷ []) cs) moved

pub trades_are_good : TradesAreGood
trades_are_good o cs = run (open_day o) cs [] tt
