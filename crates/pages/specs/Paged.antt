-- A page behind the answer to a call that asks for it.
-- Assumes nothing.
use Rattle.std.specs.Prelude.{◌≡◌, ℕ, ◌≤◌, Bool, not, List, [], ◌∷◌, ◌++◌, length, take, drop, IfOk, Ok, Err, Result, nat_lt}
use Rattle.records.specs.declared.causes.Cause.{Cause}
use Rattle.records.specs.declared.causes.Cause.TheVariants.{BufferShort, RequestNotOpen}
use Rattle.records.specs.Causes.{unless}
use Rattle.venue.specs.Days.{Day, owns}
use Rattle.venue.specs.Calls.{Call, caller_causes, causes}

-- the buffer behind an answer: the page and the rest as it was, or all as it was
abbrev pub behind : List ℕ → List ℕ → Result ℕ Cause → List ℕ
behind page before (Ok n) = page ++ drop n before
behind page before (Err e) = before

-- a page that is refused for want of room alone
abbrev pub fitted : List ℕ → ℕ → Result ℕ Cause
fitted page room = unless ((BufferShort, nat_lt room (length page)) ∷ []) (length page)

-- the answer, the whole buffer, and where there is a page, its bytes at the front
pub record Written (answer : Result ℕ Cause) (page before after : List ℕ) (r : Result ℕ Cause) : Type 0 where
  pub answers : r ≡ answer
  pub buffer : after ≡ behind page before r
  pub front : IfOk r (λ n. (n ≤ length after) × (take n after ≡ page))

-- what is left where room alone can lack
abbrev pub Fitted : List ℕ → List ℕ → List ℕ → Result ℕ Cause → Type 0
Fitted page before after r = Written (fitted page (length before)) page before after r

-- why a book question is refused, whatever the buffer is
abbrev pub asker_causes : Day → ℕ → ℕ → List (Cause × Bool)
asker_causes d u n = caller_causes d u ++ (RequestNotOpen, not (owns d u n)) ∷ []

-- what a call that asks for a page leaves, on a day
abbrev pub Paged : Day → Call → List ℕ → List ℕ → List ℕ → Result ℕ Cause → Type 0
Paged d c page before after r = Written (unless (causes d c) (length page)) page before after r
