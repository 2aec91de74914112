-- Lines by number, counted from 1: one more, some and then others, those that pass a test, and one for each row of a list.
-- Assumes nothing.
use Rattle.std.proofs.Common.{◌≡◌, ℕ, zero, suc, ◌+◌, ◌-◌, ◌<◌, ◌≤◌, Bool, true, false, cond, List, [], ◌∷◌, ◌++◌, length, get_or, take, filter, sym, refl, ap, ◌∙◌, append_assoc, append-nil, add-zero, add-suc, add-one, arith}
use Rattle.std.specs.List.{flat_map}
use Rattle.std.proofs.lemmas.Grind.{flat_map-append}
use Rattle.std.proofs.lemmas.List.Elements.{filter-append}
use Rattle.std.proofs.lemmas.List.{flat_map_more, length-append, take_more, take_all}
use Rattle.venue.specs.Pages.{numbers}

-- the bytes of so many lines
abbrev pub lines_to : (ℕ → List ℕ) → ℕ → List ℕ
lines_to line n = flat_map line (numbers n)

module _ (f : ℕ → List ℕ) where
  pub lines_suc : (n : ℕ) → lines_to f (suc n) ≡ lines_to f n ++ f (suc n)
  lines_suc n = sym (flat_map_more f [] (numbers n) (suc n))

  pub lines_more : (n : ℕ) → lines_to f (n + 1) ≡ lines_to f n ++ f (n + 1)
  lines_more n = rw (add-one n) (lines_suc n)

  pub length_more : (n : ℕ) → length (lines_to f (n + 1)) ≡ length (lines_to f n) + length (f (n + 1))
  length_more n = ap length (lines_more n) ∙ length-append (lines_to f n) (f (n + 1))

  -- fewer lines are no longer than more
  grow : (n k : ℕ) → length (lines_to f n) ≤ length (lines_to f (n + k))
  grow n zero = let same = ap (λ m. length (lines_to f m)) (add-zero n) in omega arith
  grow n (suc k) =
      let so = grow n k in
      let one = ap length (lines_suc (n + k)) ∙ length-append (lines_to f (n + k)) (f (suc (n + k))) in
      let same = ap (λ m. length (lines_to f m)) (add-suc n k) in
      omega arith

  pub lines_within : (n m : ℕ) → n < m → length (lines_to f n) + length (f (n + 1)) ≤ length (lines_to f m)
  lines_within n m h =
      let same : n + 1 + (m - (n + 1)) ≡ m = omega arith in
      let so = grow (n + 1) (m - (n + 1)) in
      let whole = ap (λ k. length (lines_to f k)) same in
      omega (arith, length_more n)

-- lines that are the same up to a number
pub lines_same : (f g : ℕ → List ℕ) (n : ℕ) → ((k : ℕ) → 1 ≤ k → k ≤ n → f k ≡ g k) → lines_to f n ≡ lines_to g n
lines_same f g zero h = refl
lines_same f g (suc n) h =
    let so = lines_same f g n (λ k a b. h k a (omega arith)) in
    let here = h (suc n) (omega arith) (omega arith) in
    let one = lines_suc f n in
    let two = lines_suc g n in
    cc

-- the lines g up to a number, and behind them the lines h
module _ (f g h : ℕ → List ℕ) (m : ℕ) (first : (k : ℕ) → 1 ≤ k → k ≤ m → f k ≡ g k) (second : (k : ℕ) → f (suc (m + k)) ≡ h (suc k)) where
  pub lines_then : (k : ℕ) → lines_to f (m + k) ≡ lines_to g m ++ lines_to h k
  lines_then zero = ap (lines_to f) (add-zero m) ∙ lines_same f g m first ∙ sym (append-nil (lines_to g m))
  lines_then (suc k) =
      ap (lines_to f) (add-suc m k)
      ∙ lines_suc f (m + k)
      ∙ ap (λ l. l ++ f (suc (m + k))) (lines_then k)
      ∙ ap (λ l. (lines_to g m ++ lines_to h k) ++ l) (second k)
      ∙ append_assoc (lines_to g m) (lines_to h k) (h (suc k))
      ∙ ap (λ l. lines_to g m ++ l) (sym (lines_suc h k))

-- what does not pass has no bytes
module _ (f : ℕ → List ℕ) (p : ℕ → Bool) where
  one_shown : (k : ℕ) → flat_map f (filter p (k ∷ [])) ≡ cond (p k) (f k) []
  one_shown k = by_test (p k)
    where
      by_test : (b : Bool) → flat_map f (cond b (k ∷ []) []) ≡ cond b (f k) []
      by_test true = append-nil (f k)
      by_test false = refl

  pub lines_shown : (n : ℕ) → lines_to (λ k. cond (p k) (f k) []) n ≡ flat_map f (filter p (numbers n))
  lines_shown zero = refl
  lines_shown (suc n) =
      lines_suc (λ k. cond (p k) (f k) []) n
      ∙ ap (λ l. l ++ cond (p (suc n)) (f (suc n)) []) (lines_shown n)
      ∙ ap (λ l. flat_map f (filter p (numbers n)) ++ l) (sym (one_shown (suc n)))
      ∙ sym (flat_map-append f (filter p (numbers n)) (filter p (suc n ∷ [])))
      ∙ ap (flat_map f) (sym (filter-append p (numbers n) (suc n ∷ [])))

-- a line for each row
module _ {X : Type 0} (f : X → List ℕ) (none : X) (rows : List X) where
  up_to : (n : ℕ) → n ≤ length rows → lines_to (λ k. f (get_or rows (k - 1) none)) n ≡ flat_map f (take n rows)
  up_to zero h = refl
  up_to (suc n) h =
      let place : suc n - 1 ≡ n = omega arith in
      let more = take_more rows n none (omega arith) in
      lines_suc (λ k. f (get_or rows (k - 1) none)) n
      ∙ ap (λ k. lines_to (λ j. f (get_or rows (j - 1) none)) n ++ f (get_or rows k none)) place
      ∙ ap (λ l. l ++ f (get_or rows n none)) (up_to n (omega arith))
      ∙ flat_map_more f [] (take n rows) (get_or rows n none)
      ∙ ap (flat_map f) (sym more)
      ∙ ap (λ k. flat_map f (take k rows)) (add-one n)

  pub lines_rows : lines_to (λ k. f (get_or rows (k - 1) none)) (length rows) ≡ flat_map f rows
  lines_rows = up_to (length rows) (omega arith) ∙ ap (flat_map f) (take_all (length rows) rows (omega arith))
