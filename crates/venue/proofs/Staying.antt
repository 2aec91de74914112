-- What was entered and offered stays. Assumes nothing.
use Rattle.std.proofs.Common.{◌≡◌, ℕ, zero, suc, ◌+◌, ◌<◌, ◌≤◌, List, [], ◌∷◌, ◌++◌, map, length, get_or, Ok, Err, Result, sym, refl, ap, ◌∙◌, append_assoc, append-nil, arith, length-append}
use lib.ListN.{length-map}
use Rattle.records.specs.declared.causes.Refusal.{Refusal}
use Rattle.venue.specs.Days.{Day, numbered, no_request, no_quote}
use Rattle.venue.specs.Calls.{Call, Call.enter, Call.offer}
use Rattle.venue.specs.Model.{Reply, entered, offered, judge, answer, apply, next_by, next, after}
use Rattle.venue.specs.Quantities.{as_entered, as_offered, EntriesStay, OffersStay}
use Rattle.venue.proofs.Ending.{requests_after, quotes_after, new_requests, new_quotes}
use Rattle.venue.proofs.Replies.{replied, reply_is}

-- one list begins with another
pub record Begins {X : Type 0} (xs ys : List X) : Type 0 where
  pub rest : List X
  pub whole : ys ≡ xs ++ rest

get_d_front : {X : Type 0} (xs ys : List X) (i : ℕ) (none : X) → i < length xs → get_or (xs ++ ys) i none ≡ get_or xs i none
get_d_front [] ys i none h = absurd (omega arith)
get_d_front (x ∷ xs) ys zero none h = refl
get_d_front (x ∷ xs) ys (suc i) none h = get_d_front xs ys i none (omega arith)

pub numbered_front : {X : Type 0} (none : X) (xs ys : List X) (n : ℕ) → n ≤ length xs → numbered none (xs ++ ys) n ≡ numbered none xs n
numbered_front none xs ys zero h = refl
numbered_front none xs ys (suc i) h = get_d_front xs ys i none (omega arith)

getD_last : {X : Type 0} (xs : List X) (x none : X) → get_or (xs ++ x ∷ []) (length xs) none ≡ x
getD_last [] x none = refl
getD_last (y ∷ xs) x none = getD_last xs x none

getD_seen : {X : Type 0} (g : X → X) (xs : List X) (i : ℕ) (none : X) → g (get_or xs i none) ≡ get_or (map g xs) i (g none)
getD_seen g [] i none = refl
getD_seen g (x ∷ xs) zero none = refl
getD_seen g (x ∷ xs) (suc i) none = getD_seen g xs i none

-- rows of which calls add some and keep what is seen of the others
module _ {X : Type 0} (g : X → X) (none : X) (rows : Day → List X) (more : Day → Call → List X) (one : (d : Day) (c : Call) → map g (rows (apply d c)) ≡ map g (rows d) ++ map g (more d c)) where
  begins_next : (d : Day) (c : Call) (q : Result Reply Refusal) → Begins (map g (rows d)) (map g (rows (next_by d c q)))
  begins_next d c (Ok r) = record { rest = map g (more d c); whole = one d c }
  begins_next d c (Err e) = record { rest = []; whole = sym (append-nil (map g (rows d))) }

  begins : (cs : List Call) (d : Day) → Begins (map g (rows d)) (map g (rows (after d cs)))
  begins [] d = record { rest = []; whole = sym (append-nil (map g (rows d))) }
  begins (c ∷ cs) d =
      let here = begins_next d c (answer d c) in
      let there = begins cs (next d c) in
      record {
        rest = here.rest ++ there.rest;
        whole = there.whole ∙ ap (λ l. l ++ there.rest) here.whole ∙ append_assoc (map g (rows d)) here.rest there.rest;
      }

  -- the last row of a day, after any calls
  stays : (d : Day) (cs : List Call) (was : List X) (x : X) (n : ℕ) → map g (rows d) ≡ was ++ x ∷ [] → n ≡ length was + 1 → g (numbered none (rows (after d cs)) n) ≡ x
  stays d cs was x n e k =
      let b = begins cs d in
      let i = length was in
      let number : n ≡ suc i = omega arith in
      let inside : i < length (was ++ x ∷ []) = let l = length-append was (x ∷ []) in omega arith in
      ap (λ m. g (numbered none (rows (after d cs)) m)) number
      ∙ getD_seen g (rows (after d cs)) i none
      ∙ ap (λ l. get_or l i (g none)) b.whole
      ∙ ap (λ l. get_or (l ++ b.rest) i (g none)) e
      ∙ get_d_front (was ++ x ∷ []) b.rest i (g none) inside
      ∙ getD_last was x (g none)

pub entries_stay : EntriesStay
entries_stay d e r later h =
    let rows = λ (f : Day). f.requests in
    let all = requests_after as_entered (λ l x. refl) in
    let number = ap (λ (s : Reply). s.number) (reply_is _ r (replied d (enter e) (judge d (enter e)) r h)) in
    let long = length-map d.requests as_entered in
    stays as_entered no_request rows new_requests all (next d (enter e)) later (map as_entered d.requests) (entered d e) r.number
    (ap (λ q. map as_entered (next_by d (enter e) q).requests) h ∙ all d (enter e)) (omega arith)

pub offers_stay : OffersStay
offers_stay d o r later h =
    let rows = λ (f : Day). f.quotes in
    let all = quotes_after as_offered (λ x. refl) in
    let number = ap (λ (s : Reply). s.number) (reply_is _ r (replied d (offer o) (judge d (offer o)) r h)) in
    let long = length-map d.quotes as_offered in
    stays as_offered no_quote rows (λ f c. new_quotes c) all (next d (offer o)) later (map as_offered d.quotes) (offered o) r.number
    (ap (λ q. map as_offered (next_by d (offer o) q).quotes) h ∙ all d (offer o)) (omega arith)
