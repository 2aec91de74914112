-- Rows that are changed one after another. Assumes nothing.
use Rattle.std.proofs.Common.{◌≡◌, ℕ, ◌+◌, ◌<◌, List, [], ◌∷◌, length, get_or, take, drop, set, map, refl, ap, subst, ◌∙◌, arith}
use Rattle.std.proofs.lemmas.Grind.{drop_more_same}
use Rattle.std.proofs.lemmas.List.{drop_more, drop-set-lt, length-drop, take_more, take_more_set}
use Rattle.std.proofs.lemmas.Slice.Zip.{all_zipped_more}
use Rattle.std.specs.List.{AllZip}

module _ {X : Type 0} (C : X → X → Type 0) where
  -- where C leaves of each row what h makes of it
  pub swept : (h : X → X) → ((x y : X) → C x y → y ≡ h x) → (xs ys : List X) → AllZip C xs ys → ys ≡ map h xs
  swept h each [] [] a = refl
  swept h each [] (y ∷ ys) a = absurd a
  swept h each (x ∷ xs) [] a = absurd a
  swept h each (x ∷ xs) (y ∷ ys) a =
      let first = each x y a.0 in
      let rest = swept h each xs ys a.1 in
      cc

  pub one_more : (xs ys : List X) (i : ℕ) (d y : X) → i < length xs → drop i ys ≡ drop i xs → AllZip C (take i xs) (take i ys) → C (get_or ys i d) y → AllZip C (take (i + 1) xs) (take (i + 1) (set ys i y))
  one_more xs ys i d y lt same a c =
      let within : i < length ys = omega (arith, ap length same, length-drop i xs, length-drop i ys) in
      let is = drop_more xs i d lt in
      let was = drop_more ys i d within in
      let row : get_or ys i d ≡ get_or xs i d = cc in
      rw (take_more xs i d lt, take_more_set ys i y within)
      (all_zipped_more C (take i xs) (take i ys) (get_or xs i d) y a (subst (λ x. C x y) row c))

pub others_stay : {X : Type 0} (xs ys : List X) (i : ℕ) (y : X) → drop i ys ≡ drop i xs → drop (i + 1) (set ys i y) ≡ drop (i + 1) xs
others_stay xs ys i y same = drop-set-lt (i + 1) ys i y (omega arith) ∙ drop_more_same ys xs i same
