-- The law of two days. Assumes nothing.
use Rattle.std.proofs.Common.{◌≡◌, ℕ, zero, suc, ◌+◌, Bool, true, false, cond, not, ◌||◌, eqb, leb, List, [], ◌∷◌, ◌++◌, map, length, is_some, Ok, Err, Result, unwrap_or, sym, refl, ap, ◌∙◌, subst, inr, ⊎_elim, add-one}
use Rattle.std.specs.Result.{result_ok}
use Rattle.std.proofs.lemmas.List.{set-get_or}
use Rattle.std.proofs.lemmas.Bool.{both_ways, false≢true, and_parts, or_left, or_right, eqb-true, eq-eqb}
use Rattle.records.specs.declared.causes.Refusal.{Refusal}
use Rattle.venue.specs.declared.rows.Acceptance.{Acceptance}
use Rattle.venue.specs.declared.rows.Entry.{Entry}
use Rattle.venue.specs.declared.rows.Life.TheVariants as life
use Rattle.venue.specs.declared.rows.Request.{Request}
use Rattle.venue.specs.declared.rows.Trade.{Trade}
use Rattle.venue.specs.Days.{Day, numbered, no_request, request_of, open_of, place_of, is_open, owns}
use Rattle.venue.specs.Trading.{Filled, renumbered}
use Rattle.venue.specs.Calls.{Call, Call.enter, Call.offer, Call.pull, Call.cancel, Call.accept, Call.file, Call.post, Call.move_clock, Call.ask_price, Call.view, Call.book, Call.close, minimum_of, expiry_of, shown_of, member, whenever, fills_of}
use Rattle.venue.specs.Model.{Reply, open_day, with_clock, with_tables, ended_as, ended_if, side_of, entered, expired, expired_quotes, is_over, settled, filed_trade, apply, answer, next_by, next, after}
use Rattle.venue.specs.TwoDays.{HeldBack, Place, Place.same, Place.changed, one_call, other_call, Alike, changed_numbers, changers, caller, Untraded, HeldBackStaysHidden}
use Rattle.venue.proofs.Beside.{Row, same_row, ended_row, ended_maybe, Beside.no_rows, row_pushed, row_set, rows_mapped, hidden_at, Tables, BesideDay, row_at, beside}
use Rattle.venue.proofs.Nearby.{SameAt, Clear, fills_same, answer_same}
use Rattle.venue.proofs.Untraded.{before_calls, deals_on}

renumbered_self : {X : Type 0} (none : X) (xs : List X) (n : ℕ) → renumbered xs n (numbered none xs n) ≡ xs
renumbered_self none xs zero = refl
renumbered_self none xs (suc i) = set-get_or xs i none

-- ns: the numbers of the entries that were changed; us: who made them
module _ (ns us : List ℕ) where
  -- one day is the other with requests that differ only in what they hold back
  pub record Near (d d' : Day) : Type 0 where
    pub rows : List Request
    pub opens : List ℕ
    pub is : d' ≡ beside d rows opens
    pub near : BesideDay ns us d rows opens

  module _ (d : Day) (rs : List Request) (os : List ℕ) (b : BesideDay ns us d rs os) where
    abbrev d' : Day
    d' = beside d rs os

    here : Near d d'
    here = record { rows = rs; opens = os; is = refl; near = b }

    -- one row and what is open of it, the row alone, and what is open of it alone
    both_set : (n : ℕ) (r : Request) (o : ℕ) (r' : Request) (o' : ℕ) → Row us (member n ns) r o r' o' → Tables ns us (renumbered d.requests n r) (renumbered d.opens n o) (renumbered rs n r') (renumbered os n o')
    both_set zero r o r' o' h = b
    both_set (suc i) r o r' o' h = row_set us (hidden_at ns) d.requests d.opens rs os b i r o r' o' h

    rows_set : (n : ℕ) (r r' : Request) → Row us (member n ns) r (open_of d n) r' (open_of d' n) → Tables ns us (renumbered d.requests n r) d.opens (renumbered rs n r') os
    rows_set n r r' h =
        subst (λ l. Tables ns us (renumbered d.requests n r) l (renumbered rs n r') os) (renumbered_self 0 d.opens n)
        (subst (λ l. Tables ns us (renumbered d.requests n r) (renumbered d.opens n (open_of d n)) (renumbered rs n r') l) (renumbered_self 0 os n)
        (both_set n r (open_of d n) r' (open_of d' n) h))

    opens_set : (n o o' : ℕ) → Row us (member n ns) (request_of d n) o (request_of d' n) o' → Tables ns us d.requests (renumbered d.opens n o) rs (renumbered os n o')
    opens_set n o o' h =
        subst (λ l. Tables ns us l (renumbered d.opens n o) rs (renumbered os n o')) (renumbered_self no_request d.requests n)
        (subst (λ l. Tables ns us (renumbered d.requests n (request_of d n)) (renumbered d.opens n o) l (renumbered os n o')) (renumbered_self no_request rs n)
        (both_set n (request_of d n) o (request_of d' n) o' h))

    -- an acceptance on a row that is the same
    accept_near : (a : Acceptance) → SameAt ns us d rs os b a.request → Near (apply d (accept a)) (apply d' (accept a))
    accept_near a e =
        record {
          rows = cond (is_over a f) (renumbered rs n (ended_as life.Accepted (request_of d' n))) rs;
          opens = renumbered os n f.open_left;
          is = ap (settled d' a) (fills_same ns us d rs os b a e);
          near = by_end (is_over a f);
        }
      where
        n : ℕ
        n = a.request

        f : Filled
        f = fills_of d a

        by_end : (x : Bool) → Tables ns us (cond x (renumbered d.requests n (ended_as life.Accepted (request_of d n))) d.requests) (renumbered d.opens n f.open_left) (cond x (renumbered rs n (ended_as life.Accepted (request_of d' n))) rs) (renumbered os n f.open_left)
        by_end true = both_set n _ _ _ _ (same_row us (member n ns) _ _ _ _ (ap (ended_as life.Accepted) e.0) refl)
        by_end false = opens_set n _ _ (same_row us (member n ns) _ _ _ _ e.0 refl)

    clock_near : (t : ℕ) → Near (apply d (move_clock t)) (apply d' (move_clock t))
    clock_near t =
        let tables : Tables ns us (expired t d.requests) d.opens (expired t rs) os = rows_mapped us _ (λ hid r o r' o' h. ended_maybe us (leb r.expiry t) (leb r'.expiry t) life.Expired hid r o r' o' (ap (λ x. leb x t) h.expiry) h) (hidden_at ns) d.requests d.opens rs os b in
        let lives = λ (n : ℕ). (row_at ns us (with_tables d (expired t d.requests) d.opens d.quotes d.remains d.trades) (expired t rs) os tables n).life in
        let quotes : expired_quotes t (expired t rs) d.quotes ≡ expired_quotes t (expired t d.requests) d.quotes = λ i. map (λ q. ended_if (leb q.expiry t || not (is_open (lives q.request i))) q) d.quotes in
        record {
          rows = expired t rs;
          opens = os;
          is = ap (λ qs. with_clock (with_tables d' (expired t rs) os qs d.remains d.trades) t) quotes;
          near = tables;
        }

    -- what a call needs to be carried out alike
    abbrev Even : Call → Type 0
    Even (enter e) = Unit {0}
    Even (offer o) = Unit {0}
    Even (pull u q) = Unit {0}
    Even (cancel u n) = Unit {0}
    Even (accept a) = SameAt ns us d rs os b a.request
    Even (file r) = Unit {0}
    Even (post p) = Unit {0}
    Even (move_clock t) = Unit {0}
    Even (ask_price k) = Unit {0}
    Even (view u room) = Unit {0}
    Even (book u n room) = Unit {0}
    Even close = Unit {0}

    apply_near : (c : Call) → Even c → Near (apply d c) (apply d' c)
    apply_near (enter e) k = record { rows = rs ++ entered d e ∷ []; opens = os ++ e.quantity ∷ []; is = refl; near = row_pushed us (hidden_at ns) d.requests d.opens rs os b _ _ _ _ (same_row us _ _ _ _ _ refl refl) }
    apply_near (offer o) k = record { rows = rs; opens = os; is = refl; near = b }
    apply_near (pull u q) k = record { rows = rs; opens = os; is = refl; near = b }
    apply_near (cancel u n) k = record { rows = renumbered rs n (ended_as life.Cancelled (request_of d' n)); opens = os; is = refl; near = rows_set n _ _ (ended_row us life.Cancelled (member n ns) _ _ _ _ (row_at ns us d rs os b n)) }
    apply_near (accept a) k = accept_near a k
    apply_near (file r) k = record { rows = rs; opens = os; is = refl; near = b }
    apply_near (post p) k = record { rows = rs; opens = os; is = refl; near = b }
    apply_near (move_clock t) k = clock_near t
    apply_near (ask_price p) k = here
    apply_near (view u room) k = here
    apply_near (book u n room) k = here
    apply_near close k = record { rows = map (ended_as life.Closed) rs; opens = os; is = refl; near = rows_mapped us _ (ended_row us life.Closed) (hidden_at ns) d.requests d.opens rs os b }

    -- a call that is answered alike
    next_near : (c : Call) → Clear ns us d rs os b c → Even c → Near (next d c) (next d' c)
    next_near c k e = subst (λ q. Near (next d c) (next_by d' c q)) (sym (answer_same ns us d rs os b c k)) (by_answer (answer d c))
      where
        by_answer : (q : Result Reply Refusal) → Near (next_by d c q) (next_by d' c q)
        by_answer (Ok r) = apply_near c e
        by_answer (Err x) = here

    -- a book question changes nothing, whatever is answered
    asked_near : (u n room : ℕ) (q q' : Result Reply Refusal) → Near (next_by d (book u n room) q) (next_by d' (book u n room) q')
    asked_near u n room (Ok r) (Ok r') = here
    asked_near u n room (Ok r) (Err x) = here
    asked_near u n room (Err x) (Ok r') = here
    asked_near u n room (Err x) (Err x') = here

    -- an acceptance on a row that was changed is refused on both sides, since none is traded on
    refused_near : (a : Acceptance) → member a.request ns ≡ true → (q q' : Result Reply Refusal) → answer d (accept a) ≡ q → answer d' (accept a) ≡ q' → Untraded ns (next_by d (accept a) q).trades → Untraded ns (next_by d' (accept a) q').trades → Near (next_by d (accept a) q) (next_by d' (accept a) q')
    refused_near a m (Ok r) q' e e' u u' = absurd (deals_on ns d a r e m u)
    refused_near a m (Err x) (Ok r) e e' u u' = absurd (deals_on ns d' a r e' m u')
    refused_near a m (Err x) (Err y) e e' u u' = here

    step : (c : Call) → Untraded ns (next d c).trades → Untraded ns (next d' c).trades → Near (next d c) (next d' c)
    step (enter e) u u' = next_near (enter e) tt tt
    step (offer o) u u' = next_near (offer o) tt tt
    step (pull x q) u u' = next_near (pull x q) tt tt
    step (cancel x n) u u' = next_near (cancel x n) tt tt
    step (accept a) u u' =
        ⊎_elim
        (λ e. next_near (accept a) (λ _. e) e)
        (λ h. refused_near a h.0 (answer d (accept a)) (answer d' (accept a)) refl refl u u')
        (row_at ns us d rs os b a.request).whole
    step (file r) u u' = next_near (file r) tt tt
    step (post p) u u' = next_near (post p) tt tt
    step (move_clock t) u u' = next_near (move_clock t) tt tt
    step (ask_price p) u u' = next_near (ask_price p) tt tt
    step (view x room) u u' = next_near (view x room) tt tt
    step (book x n room) u u' = asked_near x n room (answer d (book x n room)) (answer d' (book x n room))
    step close u u' = next_near close tt tt

    -- an entry that was changed
    held_row : (e e' : Entry) → HeldBack e e' → (hid : Bool) → hid ≡ true → member e.user us ≡ true → Row us hid (entered d e) e.quantity (entered d e') e'.quantity
    held_row e e' h hid n u =
        record {
          requestor = h.user;
          place = ap (λ bs. unwrap_or (place_of d bs) 0) h.name;
          recipients = h.recipients;
          expiry = ap expiry_of h.expiry;
          shown = ap shown_of h.shown;
          life = refl;
          side = λ t. ap side_of (h.side t);
          left = h.quantity;
          limit = h.limit;
          minimum = λ t. ap minimum_of (h.minimum t);
          whole = inr (n, u);
        }

    held_near : (e e' : Entry) → HeldBack e e' → member (length d.requests + 1) ns ≡ true → member e.user us ≡ true → (q q' : Result Reply Refusal) → is_some (result_ok q) ≡ true → is_some (result_ok q') ≡ true → Near (next_by d (enter e) q) (next_by d' (enter e') q')
    held_near e e' h n u (Ok r) (Ok r') g g' =
        record {
          rows = rs ++ entered d e' ∷ [];
          opens = os ++ e'.quantity ∷ [];
          is = refl;
          near = row_pushed us (hidden_at ns) d.requests d.opens rs os b _ _ _ _ (held_row e e' h _ (ap (λ k. member k ns) (sym (add-one (length d.requests))) ∙ n) u);
        }
    held_near e e' h n u (Ok r) (Err x) g g' = absurd (false≢true g')
    held_near e e' h n u (Err x) q' g g' = absurd (false≢true g)

    -- who made none of the changed entries owns no row that differs
    owned_same : (u n : ℕ) → member u us ≡ false → owns d u n ≡ true → SameAt ns us d rs os b n
    owned_same u n out own =
        let who = eqb-true (request_of d n).requestor u (and_parts (is_open (request_of d n).life) _ own).1 in
        ⊎_elim (λ e. e) (λ h. absurd (both_ways (member u us) out (ap (λ k. member k us) (sym who) ∙ h.1))) (row_at ns us d rs os b n).whole

    clear : (c : Call) → whenever (caller c) (λ u. member u us) ≡ false → Clear ns us d rs os b c
    clear (enter e) out = tt
    clear (offer o) out = tt
    clear (pull u q) out = tt
    clear (cancel u n) out = tt
    clear (accept a) out = owned_same a.user a.request out
    clear (file r) out = tt
    clear (post p) out = tt
    clear (move_clock t) out = tt
    clear (ask_price k) out = tt
    clear (view u room) out = tt
    clear (book u n room) out = owned_same u n out
    clear close out = tt

  answers_near : (d d' : Day) → Near d d' → (c : Call) → whenever (caller c) (λ u. member u us) ≡ false → answer d' c ≡ answer d c
  answers_near d d' n c out =
      ap (λ x. answer x c) n.is ∙ answer_same ns us d n.rows n.opens n.near c (clear d n.rows n.opens n.near c out)

  unfiled_back : (t : Trade) → member (filed_trade t).request ns ≡ false → member t.request ns ≡ false
  unfiled_back t h = h

  -- the days, place by place
  run : (ps : List Place) (d d' : Day) → Near d d' → Alike d d' ps → ((n : ℕ) → member n (changed_numbers d ps) ≡ true → member n ns ≡ true) → ((u : ℕ) → member u (changers ps) ≡ true → member u us ≡ true) → Untraded ns (after d (map one_call ps)).trades → Untraded ns (after d' (map other_call ps)).trades → Near (after d (map one_call ps)) (after d' (map other_call ps))
  run [] d d' n a nums who t t' = n
  run (same c ∷ ps) d d' n a nums who t t' =
      let u = before_calls (λ x. member x.request ns ≡ false) unfiled_back (map one_call ps) (next d c) t in
      let u' = before_calls (λ x. member x.request ns ≡ false) unfiled_back (map other_call ps) (next d' c) t' in
      run ps (next d c) (next d' c)
      (subst (λ x. Untraded ns (next x c).trades → Near (next d c) (next x c)) (sym n.is) (step d n.rows n.opens n.near c u) u')
      a.1 nums who t t'
  run (changed e e' ∷ ps) d d' n a nums who t t' =
      let k = length d.requests + 1 in
      let mine = nums k (or_left (eqb k k) _ (eq-eqb k k refl)) in
      let made = who e.user (or_left (eqb e.user e.user) _ (eq-eqb e.user e.user refl)) in
      run ps (next d (enter e)) (next d' (enter e'))
      (subst (λ x. is_some (result_ok (answer x (enter e'))) ≡ true → Near (next d (enter e)) (next x (enter e'))) (sym n.is)
      (held_near d n.rows n.opens n.near e e' a.0.0 mine made (answer d (enter e)) (answer (beside d n.rows n.opens) (enter e')) a.0.1.0)
      a.0.1.1)
      a.1 (λ m h. nums m (or_right (eqb m k) _ h)) (λ m h. who m (or_right (eqb m e.user) _ h)) t t'

pub hidden : HeldBackStaysHidden
hidden o ps c two =
    let start = open_day o in
    let ns = changed_numbers start ps in
    let us = changers ps in
    let n = run ns us ps start start (record { rows = []; opens = []; is = refl; near = no_rows (hidden_at ns) }) two.alike (λ m h. h) (λ m h. h) two.untraded two.untraded_other in
    sym (answers_near ns us (after start (map one_call ps)) (after start (map other_call ps)) n c two.uninvolved)
