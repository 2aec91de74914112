-- Numbers that pass a test, one number more. Assumes nothing.
use Rattle.std.proofs.Common.{◌≡◌, ℕ, zero, suc, ◌+◌, ◌-◌, ◌≤◌, Bool, true, false, cond, List, [], ◌∷◌, ◌++◌, map, length, fold, filter, sym, ap, ◌∙◌, append_assoc, append-nil, arith}
use Rattle.std.proofs.lemmas.List.Elements.{filter-append}
use Rattle.std.proofs.lemmas.List.Sums.{fold_push}
use Rattle.std.proofs.lemmas.List.{map-append}
use Rattle.ranked.specs.Ranks.{ranked}
use Rattle.ranked.proofs.Seats.{length_ranked}
use Rattle.venue.specs.Pages.{numbers}

pub passing_more : (p : ℕ → Bool) (n : ℕ) → 1 ≤ n → filter p (numbers n) ≡ filter p (numbers (n - 1)) ++ cond (p n) (n ∷ []) []
passing_more p zero h = absurd (omega arith)
passing_more p (suc k) h =
    let before : suc k - 1 ≡ k = omega arith in
    rw before (filter-append p (numbers k) (suc k ∷ []))

-- gathered by a step for each number that passes
pub fold_more : {X : Type 0} (into : X → ℕ → X) (x : X) (p : ℕ → Bool) (n : ℕ) → 1 ≤ n → fold into x (filter p (numbers n)) ≡ cond (p n) (into (fold into x (filter p (numbers (n - 1)))) n) (fold into x (filter p (numbers (n - 1))))
fold_more {X} into x p n h = ap (fold into x) (passing_more p n h) ∙ by_test (p n)
  where
    by_test : (b : Bool) → fold into x (filter p (numbers (n - 1)) ++ cond b (n ∷ []) []) ≡ cond b (into (fold into x (filter p (numbers (n - 1)))) n) (fold into x (filter p (numbers (n - 1))))
    by_test true = fold_push into x (filter p (numbers (n - 1))) n
    by_test false = ap (fold into x) (append-nil (filter p (numbers (n - 1))))

-- the rows of those that pass, in order
module _ {X : Type 0} (before : X → X → Bool) where
  pub length_ranked_if : (x : X) (xs : List X) (b : Bool) → length (cond b (ranked before x xs) xs) ≤ length xs + 1
  length_ranked_if x xs true = omega (arith, length_ranked before x xs)
  length_ranked_if x xs false = omega arith

  pub ranked_more : (row : ℕ → X) (p : ℕ → Bool) (n m : ℕ) (ys zs : List X) → 1 ≤ n → n ≡ m → ys ≡ fold (λ line k. ranked before (row k) line) [] (filter p (numbers (n - 1))) → zs ≡ cond (p n) (ranked before (row n) ys) ys → zs ≡ fold (λ line k. ranked before (row k) line) [] (filter p (numbers m))
  ranked_more row p n m ys zs h last old step =
      step
      ∙ ap (λ (l : List X). cond (p n) (ranked before (row n) l) l) old
      ∙ sym (fold_more (λ line k. ranked before (row k) line) [] p n h)
      ∙ ap (λ k. fold (λ (line : List X) k. ranked before (row k) line) [] (filter p (numbers k))) last

-- a row for each number that passes, behind other rows
module _ {X : Type 0} (f : ℕ → X) (p : ℕ → Bool) (n m : ℕ) (xs ys zs : List X) where
  pub rows_more : 1 ≤ n → n ≡ m → ys ≡ xs ++ map f (filter p (numbers (n - 1))) → zs ≡ cond (p n) (ys ++ f n ∷ []) ys → zs ≡ xs ++ map f (filter p (numbers m))
  rows_more h last old step = by_test (p n) step (passing_more p n h) ∙ ap (λ k. xs ++ map f (filter p (numbers k))) last
    where
      by_test : (b : Bool) → zs ≡ cond b (ys ++ f n ∷ []) ys → filter p (numbers n) ≡ filter p (numbers (n - 1)) ++ cond b (n ∷ []) [] → zs ≡ xs ++ map f (filter p (numbers n))
      by_test true z e =
          z
          ∙ ap (λ l. l ++ f n ∷ []) old
          ∙ append_assoc xs (map f (filter p (numbers (n - 1)))) (f n ∷ [])
          ∙ ap (λ l. xs ++ l) (sym (ap (map f) e ∙ map-append f (filter p (numbers (n - 1))) (n ∷ [])))
      by_test false z e = z ∙ old ∙ ap (λ l. xs ++ map f l) (sym (e ∙ append-nil (filter p (numbers (n - 1)))))
