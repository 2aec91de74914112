-- Every request stands on a symbol of the day, from the opening on. Assumes nothing.
use Rattle.std.proofs.Common.{◌≡◌, ℕ, zero, suc, ◌+◌, ◌-◌, ◌<◌, Bool, true, false, not, ◌&&◌, ◌||◌, List, [], ◌∷◌, map, length, get_or, Some, Ok, Err, Result, unwrap_or, is_some, sym, refl, ap, ◌∙◌, subst, arith}
use Rattle.std.specs.Str.{bytes_eq}
use Rattle.std.specs.List.{AllByRecursion as Every}
use Rattle.std.proofs.lemmas.Bool.{cond_both, and_parts, not-false, true≢false, false≢true}
use Rattle.records.proofs.Unless.{granted}
use Rattle.venue.specs.declared.rows.Symbol.{Symbol}
use Rattle.venue.specs.declared.rows.Request.{Request}
use Rattle.venue.specs.declared.rows.Acceptance.{Acceptance}
use Rattle.venue.specs.Days.{Day, no_request, numbered, is_open, is_name, owns, place_from, place_of}
use Rattle.venue.specs.Calls.{Call, Call.enter, Call.offer, Call.pull, Call.cancel, Call.accept, Call.file, Call.post, Call.move_clock, Call.ask_price, Call.view, Call.book, Call.close, causes}
use Rattle.records.specs.declared.causes.Cause.{Cause}
use Rattle.records.specs.declared.causes.Refusal.{Refusal}
use Rattle.venue.specs.Model.{Reply, judge, answer_by, apply, next, next_by, reply}
use Rattle.venue.specs.Places.{Placed}
use Rattle.venue.proofs.Counting.{length_filed}
use Rattle.venue.proofs.Dealing.{all_append}
use Rattle.venue.proofs.Ending.{new_requests, requests_after}

abbrev place : Request → ℕ
place r = r.place

-- all places of a list of requests are below m, said by index and by recursion
to_all : (m : ℕ) (rs : List Request) → ((i : ℕ) → i < length rs → place (get_or rs i no_request) < m) → Every (λ (p : ℕ). p < m) (map place rs)
to_all m [] h = tt
to_all m (r ∷ rs) h = (h 0 (omega arith), to_all m rs (λ i k. h (suc i) (omega arith)))

from_all : (m : ℕ) (rs : List Request) → Every (λ (p : ℕ). p < m) (map place rs) → (i : ℕ) → i < length rs → place (get_or rs i no_request) < m
from_all m [] h i k = absurd (omega arith)
from_all m (r ∷ rs) h zero k = h.0
from_all m (r ∷ rs) h (suc i) k = from_all m rs h.1 i (omega arith)

-- the place of a name is below the number of symbols, where there are any
pub place_below : (i : ℕ) (ss : List Symbol) (bs : List ℕ) → 0 < i + length ss → unwrap_or (place_from i ss bs) 0 < i + length ss
place_below i [] bs h = h
place_below i (s ∷ ss) bs h =
    cond_both (bytes_eq s.name bs) (Some i) (place_from (i + 1) ss bs) (λ o. unwrap_or o 0 < i + suc (length ss))
    (λ _. omega arith)
    (λ _. let rest = place_below (i + 1) ss bs (omega arith) in omega arith)

-- a name that some symbol has
found_some : (ss : List Symbol) (bs : List ℕ) → is_some (place_from 0 ss bs) ≡ true → 0 < length ss
found_some [] bs h = absurd (false≢true h)
found_some (s ∷ ss) bs h = omega arith

-- a name that is one, and is not unknown, is some symbol's
known : (a n r s : Bool) → (a || (not n || r)) ≡ false → (n && not s) ≡ false → s ≡ true
known true n r s h k = absurd (true≢false h)
known false false r s h k = absurd (true≢false h)
known false true r false h k = absurd (true≢false k)
known false true r true h k = refl

-- a request that is open is one of the day's
open_some : (rs : List Request) (n : ℕ) → is_open (numbered no_request rs n).life ≡ true → 0 < length rs
open_some [] zero h = absurd (false≢true h)
open_some [] (suc n) h = absurd (false≢true h)
open_some (r ∷ rs) n h = omega arith

pub owned_some : (d : Day) (u n : ℕ) → owns d u n ≡ true → 0 < length d.requests
owned_some d u n h = open_some d.requests n (and_parts _ _ h).0

new_placed : (d : Day) (c : Call) → judge d c ≡ Ok tt → Every (λ (p : ℕ). p < length d.symbols) (map place (new_requests d c))
new_placed d (enter e) v =
    let g = (granted (causes d (enter e)) tt tt v).0 in
    let found = found_some d.symbols e.name (known _ (is_name e.name) _ (is_some (place_of d e.name)) g.1.1.0 g.1.1.1.1.0) in
    let below = place_below 0 d.symbols e.name (omega arith) in
    (omega arith, tt)
new_placed d (offer o) v = tt
new_placed d (pull u q) v = tt
new_placed d (cancel u n) v = tt
new_placed d (accept a) v = tt
new_placed d (file r) v = tt
new_placed d (post p) v = tt
new_placed d (move_clock t) v = tt
new_placed d (ask_price k) v = tt
new_placed d (view u room) v = tt
new_placed d (book u n room) v = tt
new_placed d close v = tt

same_symbols : (d : Day) (c : Call) → (apply d c).symbols ≡ d.symbols
same_symbols d (enter e) = refl
same_symbols d (offer o) = refl
same_symbols d (pull u q) = refl
same_symbols d (cancel u n) = refl
same_symbols d (accept a) = refl
same_symbols d (file r) = refl
same_symbols d (post p) = refl
same_symbols d (move_clock t) = refl
same_symbols d (ask_price k) = refl
same_symbols d (view u room) = refl
same_symbols d (book u n room) = refl
same_symbols d close = refl

-- without symbols there are no requests, and so no acceptance is carried out
no_deal : (d : Day) (a : Acceptance) → Placed d → length d.symbols ≡ 0 → judge d (accept a) ≡ Ok tt → ⊥
no_deal d a p e v =
    let own = not-false (owns d a.user a.request) (granted (causes d (accept a)) tt tt v).0.1.1.1.1.1.0 in
    let first = p.0 0 (owned_some d a.user a.request own) in
    omega arith

same_trades : (d : Day) (c : Call) → Placed d → judge d c ≡ Ok tt → length d.symbols ≡ 0 → length (apply d c).trades ≡ length d.trades
same_trades d (enter e) p v z = refl
same_trades d (offer o) p v z = refl
same_trades d (pull u q) p v z = refl
same_trades d (cancel u n) p v z = refl
same_trades d (accept a) p v z = absurd (no_deal d a p z v)
same_trades d (file r) p v z = length_filed (r.last + 1 - r.first) d.trades r.first
same_trades d (post q) p v z = refl
same_trades d (move_clock t) p v z = refl
same_trades d (ask_price k) p v z = refl
same_trades d (view u room) p v z = refl
same_trades d (book u n room) p v z = refl
same_trades d close p v z = refl

-- a call that is carried out keeps the rows in their places
pub placed_after : (d : Day) (c : Call) → Placed d → judge d c ≡ Ok tt → Placed (apply d c)
placed_after d c p v =
    let same = same_symbols d c in
    let m = length d.symbols in
    let rows : Every (λ (q : ℕ). q < m) (map place (apply d c).requests) =
    subst (Every (λ (q : ℕ). q < m)) (sym (requests_after place (λ l r. refl) d c))
    (all_append (λ (q : ℕ). q < m) (map place d.requests) (map place (new_requests d c)) (to_all m d.requests p.0) (new_placed d c v)) in
    let many : length (apply d c).symbols ≡ m = ap length same in (
      λ i k. let here = from_all m (apply d c).requests rows i k in omega arith,
      λ z. let none : m ≡ 0 = sym many ∙ z in same_trades d c p v none ∙ p.1 none,
    )

-- and so does every call
pub placed_next : (d : Day) (c : Call) → Placed d → Placed (next d c)
placed_next d c p = by_verdict (judge d c) refl
  where
    by_reply : (r : Result Reply Refusal) → Placed (apply d c) → Placed (next_by d c r)
    by_reply (Ok r) q = q
    by_reply (Err e) q = p

    by_verdict : (v : Result Unit Cause) → judge d c ≡ v → Placed (next_by d c (answer_by d c v))
    by_verdict (Ok x) g = by_reply (reply d c) (placed_after d c p g)
    by_verdict (Err e) g = p
