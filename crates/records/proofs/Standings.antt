-- What is added up and looked for among the fields of a kind. Assumes nothing.
use Rattle.std.proofs.Common.{◌≡◌, ℕ, ◌+◌, ◌*◌, ◌/◌, ◌%◌, ◌^◌, ◌<◌, ◌≤◌, Bool, true, false, cond, not, ◌&&◌, ◌||◌, eqb, List, [], ◌∷◌, length, sym, refl, ap, ◌∙◌, arith}
use Rattle.std.specs.Bool.{MatchBool}
use Rattle.std.specs.List.{AllWithin, HoldsAt, enumerate_from, list_any, sum_by}
use Rattle.std.proofs.lemmas.Nat.{shr-shr}
use Rattle.std.proofs.lemmas.Bool.Decides.{nat_tests}
use Rattle.std.proofs.lemmas.List.Folds.{list_any_at, list_any_none}
use Rattle.std.proofs.lemmas.List.Sums.{sum_by-cons}
use Rattle.records.specs.declared.parts.Field.{Field}
use Rattle.records.specs.declared.parts.Record.{Record}
use Rattle.records.specs.declared.parts.Shape.{Shape}
use Rattle.records.specs.declared.parts.Shape.TheVariants as form
use Rattle.records.specs.declared.parts.Slot.{Slot}
use Rattle.records.specs.Layout.{field_of, may_lack, shape}
use Rattle.records.specs.Fields.{value}
use Rattle.records.specs.Bytes.{width, odd, standing, size, missing, fits, wrong}

pub size_is : (fs : List Field) → size fs ≡ sum_by (λ f. width (shape f)) fs
size_is [] = refl
size_is (f ∷ fs) = ap (λ n. width (shape f) + n) (size_is fs) ∙ sym (sum_by-cons (λ g. width (shape g)) f fs)

pub wrong_is : (r : Record) (fs : List Field) → wrong r fs ≡ list_any (λ f. not (fits (shape f) (value f r))) fs
wrong_is r [] = refl
wrong_is r (f ∷ fs) = ap (λ b. not (fits (shape f) (value f r)) || b) (wrong_is r fs)

-- what `any` answers, as a test of the list
pub any_is : {X : Type 0} (p : X → Bool) (xs : List X) (b : Bool) → X → MatchBool b ((k : ℕ) × (k < length xs) × HoldsAt (λ x. p x ≡ true) xs k) (AllWithin (λ x. p x ≡ false) xs 0 (length xs)) → b ≡ list_any p xs
any_is p xs true d h = sym (list_any_at p xs h.0 d h.1 (h.2 d))
any_is p xs false d h = sym (list_any_none p xs (λ k e lt. h k e (omega arith) lt))

-- no shape takes more than eight bytes
wide : (s : Shape) → width s ≤ 8
wide form.Byte = omega arith
wide form.Two = omega arith
wide form.Four = omega arith
wide form.Eight = omega arith
wide form.Users = omega arith
wide form.Set = omega arith
wide form.YesNo = omega arith
wide form.BuySell = omega arith
wide form.KeepCancel = omega arith
wide form.Reference = omega arith
wide form.Priced = omega arith
wide form.Text = omega arith
wide form.Mark = omega arith

pub size_most : (fs : List Field) → size fs ≤ 8 * length fs
size_most [] = omega arith
size_most (f ∷ fs) =
    let here = wide (shape f) in
    let rest = size_most fs in
    omega arith

-- whether the field of a slot lacks and must stand, by its place in the map
abbrev pub lacks : ℕ → ℕ × Slot → Bool
lacks m p = not (may_lack p.1) && eqb (m / 2 ^ p.0 % 2) 0

even : (m : ℕ) → not (odd m) ≡ eqb (m % 2) 0
even m = grind (arith, nat_tests)

missing_from : (ss : List Slot) (m i : ℕ) → missing ss (m / 2 ^ i) ≡ list_any (lacks m) (enumerate_from i ss)
missing_from [] m i = refl
missing_from (s ∷ ss) m i =
    ap (λ b. (not (may_lack s) && b) || missing ss (m / 2 ^ i / 2)) (even (m / 2 ^ i))
    ∙ ap (λ b. lacks m (i, s) || b) (ap (missing ss) (shr-shr m i 1) ∙ missing_from ss m (i + 1))

pub missing_is : (ss : List Slot) (m : ℕ) → missing ss m ≡ list_any (lacks m) (enumerate_from 0 ss)
missing_is ss m =
    let whole : m / 2 ^ 0 ≡ m = omega arith in
    ap (missing ss) (sym whole) ∙ missing_from ss m 0

-- no more fields stand than there are slots
pub standing_few : (ss : List Slot) (m : ℕ) → length (standing ss m) ≤ length ss
standing_few [] m = omega arith
standing_few (s ∷ ss) m = by_bit (odd m) (standing_few ss (m / 2))
  where
    by_bit : (b : Bool) → length (standing ss (m / 2)) ≤ length ss → length (cond b (field_of s ∷ standing ss (m / 2)) (standing ss (m / 2))) ≤ length (s ∷ ss)
    by_bit true h = omega arith
    by_bit false h = omega arith
