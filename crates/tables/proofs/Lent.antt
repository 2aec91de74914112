-- A row of a table in use, as it is lent by its number. Assumes nothing.
use Rattle.std.proofs.Common.{◌≡◌, ℕ, zero, suc, ◌<◌, List, length, get_or, set, take, refl, sym, ap, ◌∙◌, arith}
use Rattle.std.proofs.Math.Seq.{take-set-lt, set_out}
use Rattle.std.proofs.lemmas.List.{get_or_default, get_or-take}
use Rattle.venue.specs.Days.{numbered}
use Rattle.venue.specs.Trading.{renumbered}

-- of the first rows of an array, the one with a number: what they are once it is written, and what is read of it
module _ {X : Type 0} (xs : List X) (len n i : ℕ) (is : n ≡ suc i) (within : i < len) where
  pub front_written : (x : X) → take len (set xs i x) ≡ renumbered (take len xs) n x
  front_written x = take-set-lt len xs i x within ∙ ap (λ k. renumbered (take len xs) k x) (sym is)

  pub front_read : i < length xs → (d none : X) → get_or xs i d ≡ numbered none (take len xs) n
  front_read room d none =
      get_or_default xs i d none room
      ∙ sym (get_or-take len xs i none within)
      ∙ ap (numbered none (take len xs)) (sym is)

-- at a number that is none, nothing is written
pub written_behind : {X : Type 0} (xs : List X) (n : ℕ) (x : X) → (0 < n → length xs < n) → renumbered xs n x ≡ xs
written_behind xs zero x h = refl
written_behind xs (suc n) x h = let k = h (omega arith) in set_out xs n x (omega arith)
