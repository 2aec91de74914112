-- The turns of a line, and where they stand among the quantities. Assumes nothing.
use Rattle.std.proofs.Common.{◌≡◌, ℕ, zero, suc, ◌<◌, ◌≤◌, List, [], ◌++◌, length, get_or, take, drop, fold, sym, ap, ◌∙◌, ⊎_elim, append_assoc, arith}
use Rattle.std.proofs.lemmas.List.{set_past, get_or-set_same, get_or_past, take_all}
use Rattle.std.proofs.lemmas.Bool.{cases_lt}
use Rattle.std.proofs.Math.Seq.{take-append_seam, drop-append_seam}
use Rattle.venue.specs.Days.{numbered}
use Rattle.venue.specs.Trading.{Filled, fills, renumbered, turn}
use Rattle.venue.specs.declared.rows.Candidate.{Candidate}
use Rattle.venue.specs.declared.rows.Trade.{Trade}
use Rattle.deals.specs.declared.terms.Terms.{Terms}
use Rattle.deals.specs.Filling.{filled_on, live_day, so_far, terms_day}

-- what stands at a number after less was put there: nothing where there is nothing
pub numbered_put : (xs : List ℕ) (n k : ℕ) → k ≤ numbered 0 xs n → numbered 0 (renumbered xs n k) n ≡ k
numbered_put xs zero k h = omega arith
numbered_put xs (suc n) k h =
    ⊎_elim
    (λ (l : n < length xs). get_or-set_same xs n k 0 l)
    (λ (l : length xs ≤ n).
    let past = get_or_past xs n 0 l in
    let none : get_or xs n 0 ≡ k = omega arith in
    ap (λ ys. get_or ys n 0) (set_past xs n k l) ∙ none)
    (cases_lt n (length xs))

-- the quantities in use, among those that are not
module _ {X : Type 0} (opens front remains back : List X) where
  abbrev pub whole : List X
  whole = (opens ++ front) ++ (remains ++ back)

  pub opens_of : (k : ℕ) → length opens ≡ k → take k whole ≡ opens
  opens_of k e =
      ap (λ n. take n whole) (sym e)
      ∙ ap (take (length opens)) (append_assoc opens front (remains ++ back))
      ∙ take-append_seam opens (front ++ (remains ++ back))

  pub remains_of : (m k : ℕ) → length (opens ++ front) ≡ m → length remains ≡ k → take k (drop m whole) ≡ remains
  remains_of m k e l =
      ap (λ n. take k (drop n whole)) (sym e)
      ∙ ap (take k) (drop-append_seam (opens ++ front) (remains ++ back))
      ∙ ap (λ n. take n (remains ++ back)) (sym l)
      ∙ take-append_seam remains back

pub filled_parts : (k : Terms) (opens front remains back : List ℕ) (left : ℕ) (made : List Trade) → length opens ≡ length k.requests.now → length (opens ++ front) ≡ 128 → length remains ≡ length k.quotes.now → numbered 0 opens k.call.now.request ≡ left → filled_on (live_day k (whole opens front remains back)) k.call.now.request made ≡ so_far left remains made
filled_parts k opens front remains back left made o m r is =
    let all = whole opens front remains back in
    ap (λ l. so_far (numbered 0 l k.call.now.request) (take (length k.quotes.now) (drop 128 all)) made) (opens_of opens front remains back _ o)
    ∙ ap (λ l. so_far (numbered 0 opens k.call.now.request) l made) (remains_of opens front remains back 128 _ m r)
    ∙ ap (λ m. so_far m remains made) is

-- the turns of the whole line are its fills
pub turns_all : (k : Terms) (quantities : List ℕ) (line : List Candidate) (i : ℕ) (f : Filled) → length line ≤ i → f ≡ fold (turn (terms_day k) k.call.now.request) (filled_on (live_day k quantities) k.call.now.request []) (take i line) → f ≡ fills (live_day k quantities) k.call.now.request line
turns_all k quantities line i f h e =
    e ∙ ap (fold (turn (terms_day k) k.call.now.request) (filled_on (live_day k quantities) k.call.now.request [])) (take_all i line h)
