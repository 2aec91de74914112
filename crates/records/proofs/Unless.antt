-- What is known of an answer that no cause forbids. Assumes nothing.
use Rattle.std.proofs.Common.{◌≡◌, ℕ, Bool, true, false, cond, List, [], ◌∷◌, ◌++◌, Ok, Err, Result, sym, refl, ap, ◌∙◌, arith}
use Rattle.std.specs.List.{AllByRecursion as Every}
use Rattle.records.specs.declared.causes.Cause.{Cause}
use Rattle.records.specs.Causes.{unless}

-- none of the causes holds, and the answer is the one that was to be given
pub granted : {X : Type 0} (cs : List (Cause × Bool)) (x y : X) → unless cs x ≡ Ok y → Every (λ c. c.1 ≡ false) cs × (x ≡ y)
granted [] x y e = (tt, cc)
granted {X} (c ∷ cs) x y e = by_test c.1 refl e (granted cs x y)
  where
    by_test : (b : Bool) → c.1 ≡ b → cond b (Err c.0) (unless cs x) ≡ Ok y → (unless cs x ≡ Ok y → Every (λ d. d.1 ≡ false) cs × (x ≡ y)) → (((c.1 ≡ false) × Every (λ d. d.1 ≡ false) cs) × (x ≡ y))
    by_test true h k ih = let z : ◌≡◌ {A = ℕ} 0 1 = cc in absurd (omega arith)
    by_test false h k ih = let rest = ih k in ((h, rest.0), rest.1)

-- and where none holds, that answer is given
pub grants : {X : Type 0} (cs : List (Cause × Bool)) (x : X) → Every (λ c. c.1 ≡ false) cs → unless cs x ≡ Ok x
grants [] x h = refl
grants (c ∷ cs) x h = ap (λ b. cond b (Err c.0) (unless cs x)) h.0 ∙ grants cs x h.1

-- the verdict of a list of causes
abbrev pub verdict : List (Cause × Bool) → Result (Unit {0}) Cause
verdict cs = unless cs tt

-- causes that are judged part by part: a part that grants leaves the verdict to the next, and one that refuses has it
pub unless_next : (xs ys : List (Cause × Bool)) → Ok tt ≡ verdict xs → verdict (xs ++ ys) ≡ verdict ys
unless_next [] ys e = refl
unless_next (c ∷ cs) ys e =
    elim c.1 as (λ b. Ok tt ≡ cond b (Err c.0) (verdict cs) → cond b (Err c.0) (verdict (cs ++ ys)) ≡ verdict ys) [
      | true ↦ λ h. let z : ◌≡◌ {A = ℕ} 0 1 = cc in absurd (omega arith)
      | false ↦ λ h. unless_next cs ys h
    ]
    e

pub unless_first : (xs ys : List (Cause × Bool)) (e : Cause) → Err e ≡ verdict xs → verdict (xs ++ ys) ≡ Err e
unless_first [] ys e h = let z : ◌≡◌ {A = ℕ} 0 1 = cc in absurd (omega arith)
unless_first (c ∷ cs) ys e h =
    elim c.1 as (λ b. Err e ≡ cond b (Err c.0) (verdict cs) → cond b (Err c.0) (verdict (cs ++ ys)) ≡ Err e) [
      | true ↦ λ (k : ◌≡◌ {A = Result (Unit {0}) Cause} (Err e) (Err c.0)). sym k
      | false ↦ λ k. unless_first cs ys e k
    ]
    h
