-- Lists of causes that tell the same. Assumes nothing.
use Rattle.std.proofs.Common.{◌≡◌, ℕ, zero, suc, Bool, true, false, cond, ◌&&◌, List, [], ◌∷◌, take, drop, Err, refl, ap, ◌∙◌, subst, arith}
use Rattle.records.specs.declared.causes.Cause.{Cause}
use Rattle.records.specs.Causes.{unless}

-- the same causes under the same tests, up to the first that holds
pub data Agree : List (Cause × Bool) → List (Cause × Bool) → Type 0 where
  over : Agree [] []
  test : {e : Cause} {b b' : Bool} {cs cs' : List (Cause × Bool)} → b ≡ b' → (b ≡ false → Agree cs cs') → Agree ((e, b) ∷ cs) ((e, b') ∷ cs')

pub agreed : {X : Type 0} (cs cs' : List (Cause × Bool)) (x : X) → Agree cs cs' → unless cs x ≡ unless cs' x
agreed cs cs' x over = refl
agreed {X} cs cs' x (test {e = e} {b = b} {b' = b'} {cs = ds} {cs' = ds'} k rest) = ap (λ t. cond t (Err e) (unless ds x)) k ∙ by_test b' (λ f. agreed ds ds' x (rest (k ∙ f)))
  where
    by_test : (t : Bool) → (t ≡ false → unless ds x ≡ unless ds' x) → cond t (Err e) (unless ds x) ≡ cond t (Err e) (unless ds' x)
    by_test true same = refl
    by_test false same = same refl

-- the first n are the same
pub alike_for : (n : ℕ) (cs cs' : List (Cause × Bool)) → take n cs ≡ take n cs' → Agree (drop n cs) (drop n cs') → Agree cs cs'
alike_for zero cs cs' e a = a
alike_for (suc n) [] [] e a = a
alike_for (suc n) [] (c ∷ cs) e a = let z : ◌≡◌ {A = ℕ} 0 1 = cc in absurd (omega arith)
alike_for (suc n) (c ∷ cs) [] e a = let z : ◌≡◌ {A = ℕ} 0 1 = cc in absurd (omega arith)
alike_for (suc n) (c ∷ cs) (c' ∷ cs') e a =
    let head : c ≡ c' = cc in
    let tail : take n cs ≡ take n cs' = cc in
    subst (λ x. Agree (c ∷ cs) (x ∷ cs')) head (test refl (λ _. alike_for n cs cs' tail a))

-- a test that counts only behind another
pub behind : (b b' x x' : Bool) → b' ≡ b → (b ≡ true → x' ≡ x) → (b' && x') ≡ (b && x)
behind true b' x x' e h = ap (λ y. y && x') e ∙ h refl
behind false b' x x' e h = ap (λ y. y && x') e
