-- What holds of every call, above the definitions that are steps.
-- Assumes nothing.
use Rattle.std.specs.Prelude.{◌≡◌, ℕ, ◌+◌, ◌-◌, ◌<◌, ◌≤◌, min, Bool, true, false, ◌⊎◌, List, [], ◌∷◌, map, Ok, Err}
use Rattle.std.specs.List.Sorted.{IsPermutation}
use Rattle.std.specs.List.{AllByRecursion as Every}
use Rattle.records.specs.declared.causes.Cause.{Cause}
use Rattle.records.specs.declared.causes.Refusal.{Refusal}
use Rattle.records.specs.Causes.{number}
use Rattle.venue.specs.declared.rows.Side.{Side}
use Rattle.venue.specs.declared.rows.Side.TheVariants.{Buy, Sell}
use Rattle.venue.specs.declared.rows.Candidate.{Candidate}
use Rattle.venue.specs.declared.rows.Trade.{Trade}
use Rattle.venue.specs.Days.{Day, numbered, request_of, quote_of, open_of}
use Rattle.venue.specs.Trading.{candidate, in_order, renumbered, trade_of_fill, fills, total}
use Rattle.venue.specs.Calls.{Call, causes}
use Rattle.venue.specs.Model.{judge, answer, next}

-- a refused call leaves the day as it was
abbrev pub RefusedLeaves : Type 0
RefusedLeaves = (d : Day) (c : Call) (e : Refusal) → answer d c ≡ Err e → next d c ≡ d

-- the cause is among them and holds
abbrev pub Among : Cause → List (Cause × Bool) → Type 0
Among e [] = ⊥
Among e (x ∷ xs) = ((x.0 ≡ e) × (x.1 ≡ true)) ⊎ Among e xs

-- no refusal comes without its cause, and none while a cause with a smaller number stands
pub record LeastCause (e : Cause) (cs : List (Cause × Bool)) : Type 0 where
  pub holds : Among e cs
  pub least : Every (λ x. x.1 ≡ true → number e ≤ number x.0) cs

abbrev pub ToldCauses : Type 0
ToldCauses = (d : Day) (c : Call) (e : Cause) → judge d c ≡ Err e → LeastCause e (causes d c)

-- where no cause holds, the call is answered
abbrev pub Granted : Type 0
Granted = (d : Day) (c : Call) → Every (λ x. x.1 ≡ false) (causes d c) → judge d c ≡ Ok tt

-- a lower price is better for a buyer, a higher one for a seller
abbrev pub Better : Side → ℕ → ℕ → Type 0
Better Buy p q = p < q
Better Sell p q = q < p

-- a better price for the requestor, or else a lower rank, or else more remaining, or else a lower number, or level in all
abbrev pub Ahead : Side → Candidate → Candidate → Type 0
Ahead side x y =
    Better side x.price y.price
    ⊎ ((x.price ≡ y.price) × ((x.rank < y.rank)
    ⊎ ((x.rank ≡ y.rank) × ((y.remaining < x.remaining)
    ⊎ ((x.remaining ≡ y.remaining) × (x.quote ≤ y.quote))))))

-- each stands so to all that follow it
abbrev pub Pairwise : {X : Type 0} → (X → X → Type 0) → List X → Type 0
Pairwise R [] = Unit {0}
Pairwise R (x ∷ xs) = Every (R x) xs × Pairwise R xs

-- the order of quotes is by the four keys, and has the quotes that were put into it and no others
abbrev pub SortedQuotes : Type 0
SortedQuotes =
    (d : Day) (n : ℕ) (qs : List ℕ)
    → Pairwise (Ahead (request_of d n).side) (in_order d n qs) × IsPermutation (map (candidate d n) qs) (in_order d n qs)

-- the turns of candidates: from what is open of the request and remains of the quotes, they make trades and leave the rest.
-- A fill is the smaller of what is open and what remains at that turn, and meets both minimums; a quote that is passed
-- over is below one of them then.
pub data Turns (d : Day) (n : ℕ) : ℕ → List ℕ → List Candidate → List Trade → ℕ → List ℕ → Type 0 where
  finished : (o : ℕ) (rs : List ℕ) → Turns d n o rs [] [] o rs
  passed : (o : ℕ) (rs : List ℕ) (c : Candidate) (cs : List Candidate) (ts : List Trade) (o' : ℕ) (rs' : List ℕ) → (min o (numbered 0 rs c.quote) < (request_of d n).minimum) ⊎ (min o (numbered 0 rs c.quote) < (quote_of d c.quote).minimum) → Turns d n o rs cs ts o' rs' → Turns d n o rs (c ∷ cs) ts o' rs'
  traded : (o : ℕ) (rs : List ℕ) (c : Candidate) (cs : List Candidate) (ts : List Trade) (o' : ℕ) (rs' : List ℕ) → (request_of d n).minimum ≤ min o (numbered 0 rs c.quote) → (quote_of d c.quote).minimum ≤ min o (numbered 0 rs c.quote) → Turns d n (o - min o (numbered 0 rs c.quote)) (renumbered rs c.quote (numbered 0 rs c.quote - min o (numbered 0 rs c.quote))) cs ts o' rs' → Turns d n o rs (c ∷ cs) (trade_of_fill d n c (min o (numbered 0 rs c.quote)) ∷ ts) o' rs'

abbrev pub FillsByTurns : Type 0
FillsByTurns =
    (d : Day) (n : ℕ) (line : List Candidate)
    → Turns d n (open_of d n) d.remains line (fills d n line).trades (fills d n line).open_left (fills d n line).remains

-- what remains of the quotes of a line, together
abbrev pub all_remaining : List ℕ → List Candidate → ℕ
all_remaining rs [] = 0
all_remaining rs (c ∷ cs) = numbered 0 rs c.quote + all_remaining rs cs

-- what is traded and what is left open make up what was open, and no more is traded than remained of the quotes
abbrev pub FillsAddUp : Type 0
FillsAddUp =
    (d : Day) (n : ℕ) (line : List Candidate)
    → (total (fills d n line).trades + (fills d n line).open_left ≡ open_of d n)
    × (total (fills d n line).trades ≤ all_remaining d.remains line)
