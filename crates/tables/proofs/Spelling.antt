-- Names, by what their bytes are. Assumes nothing.
use Rattle.std.proofs.Common.{◌≡◌, ℕ, suc, ◌+◌, ◌≤◌, Bool, true, false, not, cond, ◌&&◌, ◌||◌, eqb, ltb, ◌*◌, ◌<◌, Option, Some, None, List, [], ◌∷◌, length, get_or, drop, w64, refl, sym, ap, subst, ◌∙◌, arith}
use Rattle.std.specs.Int.{from_be_bytes}
use Rattle.std.specs.List.{list_all, position_or_len}
use Rattle.std.specs.Ordering.{is_lt, nat_cmp}
use Rattle.std.specs.Cmp.Lexicographic.{slice_cmp}
use Rattle.std.specs.Option.{unwrap_or}
use Rattle.std.specs.Str.{bytes_eq}
use Rattle.std.proofs.lemmas.Bool.Decides.{nat_tests}
use Rattle.std.proofs.lemmas.Cmp.{same_from_slice_cmp}
use Rattle.std.proofs.lemmas.Nat.{be_bytes_8}
use Rattle.std.proofs.lemmas.List.Sums.{prefix_len-le-length}
use Rattle.venue.specs.Days.{sign, blanks, padded, name_before, place_from}
use Rattle.venue.specs.declared.rows.Symbol.{Symbol}

pub all_blank : (bs : List ℕ) → list_all (λ b. eqb b 32) bs ≡ blanks bs
all_blank [] = refl
all_blank (b ∷ bs) = ap (λ e. eqb b 32 && e) (all_blank bs)

-- where the signs end, if they do
abbrev pub signs_end : List ℕ → ℕ
signs_end = position_or_len (λ b. not (sign b))

padded_sign : (b : ℕ) (bs : List ℕ) → sign b ≡ true → padded (b ∷ bs) ≡ padded bs
padded_sign b bs h = grind (arith, nat_tests)

padded_by : (b : ℕ) (bs : List ℕ) (s : Bool) → s ≡ sign b → blanks (drop (signs_end bs) bs) ≡ padded bs → blanks (drop (cond (not (not s)) (1 + signs_end bs) 0) (b ∷ bs)) ≡ padded (b ∷ bs)
padded_by b bs true e step = let k : 1 + signs_end bs ≡ suc (signs_end bs) = omega arith in ap (λ n. blanks (drop n (b ∷ bs))) k ∙ step ∙ sym (padded_sign b bs (sym e))
padded_by b bs false e step = ap (λ s. (s && padded bs) || (eqb b 32 && blanks bs)) e

padded_from : (bs : List ℕ) → blanks (drop (signs_end bs) bs) ≡ padded bs
padded_from [] = refl
padded_from (b ∷ bs) = padded_by b bs (sign b) refl (padded_from bs)

within : (n k : ℕ) → n ≤ k → unwrap_or (cond (ltb n k) (Some n) None) k ≡ n
within n k h = grind (arith, nat_tests)

-- what stands behind the signs is blank where a name is padded, however the end of the signs was found
pub padded_is : (bs : List ℕ) (r : Option ℕ) → r ≡ cond (ltb (signs_end bs) (length bs)) (Some (signs_end bs)) None → blanks (drop (unwrap_or r (length bs)) bs) ≡ padded bs
padded_is bs r h =
    ap (λ o. blanks (drop (unwrap_or o (length bs)) bs)) h
    ∙ ap (λ n. blanks (drop n bs)) (within (signs_end bs) (length bs) (prefix_len-le-length _ bs))
    ∙ padded_from bs

-- the order of texts is that of names where both have as many bytes
abbrev pub before : List ℕ → List ℕ → Bool
before [] [] = false
before [] (y ∷ ys) = true
before (x ∷ xs) [] = false
before (x ∷ xs) (y ∷ ys) = cond (ltb x y) true (cond (ltb y x) false (before xs ys))

same_before : (xs ys : List ℕ) → length xs ≡ length ys → before xs ys ≡ name_before xs ys
same_before [] [] h = refl
same_before [] (y ∷ ys) h = absurd (omega arith)
same_before (x ∷ xs) [] h = refl
same_before (x ∷ xs) (y ∷ ys) h = ap (λ e. cond (ltb x y) true (cond (ltb y x) false e)) (same_before xs ys (omega arith))

pub before_is : (xs ys : List ℕ) → length xs ≡ length ys → is_lt (slice_cmp nat_cmp xs ys) ≡ name_before xs ys
before_is xs ys same =
    same_from_slice_cmp nat_cmp is_lt before refl (λ _ _. refl) (λ _ _. refl) (λ x y xs ys o h. grind (arith, nat_tests)) xs ys _ refl
    ∙ same_before xs ys same

-- the place of a name among symbols, by where they stand
abbrev pub has_name : List ℕ → Symbol → Bool
has_name name y = bytes_eq y.name name

place_by : (i : ℕ) (b : Bool) (p n : ℕ) (r : Option ℕ) → cond (ltb p n) (Some (i + 1 + p)) None ≡ r → cond (ltb (cond (not b) (1 + p) 0) (suc n)) (Some (i + cond (not b) (1 + p) 0)) None ≡ cond b (Some i) r
place_by i true p n r h = grind (arith, nat_tests)
place_by i false p n r h = grind (arith, nat_tests)

place_from_is : (i : ℕ) (ys : List Symbol) (name : List ℕ) → cond (ltb (position_or_len (has_name name) ys) (length ys)) (Some (i + position_or_len (has_name name) ys)) None ≡ place_from i ys name
place_from_is i [] name = refl
place_from_is i (y ∷ ys) name = place_by i (has_name name y) (position_or_len (has_name name) ys) (length ys) _ (place_from_is (i + 1) ys name)

pub place_is : (ys : List Symbol) (name : List ℕ) → cond (ltb (position_or_len (has_name name) ys) (length ys)) (Some (position_or_len (has_name name) ys)) None ≡ place_from 0 ys name
place_is ys name =
    let p = position_or_len (has_name name) ys in
    let e : p ≡ 0 + p = omega arith in
    ap (λ q. cond (ltb p (length ys)) (Some q) None) e ∙ place_from_is 0 ys name

-- the number that bytes spell after another, the greatest first
abbrev pub number : ℕ → List ℕ → ℕ
number n [] = n
number n (b ∷ bs) = number (n * 256 + b) bs

abbrev pub AreBytes : List ℕ → Type 0
AreBytes bs = (i : ℕ) → get_or bs i 0 < 256

-- a byte decides only where what stands before it is level
level_step : (m n x y : ℕ) (r : Bool) → x < 256 → y < 256 → cond (ltb (m * 256 + x) (n * 256 + y)) true (cond (ltb (n * 256 + y) (m * 256 + x)) false r) ≡ cond (ltb m n) true (cond (ltb n m) false (cond (ltb x y) true (cond (ltb y x) false r)))
level_step m n x y r h k = grind (arith, nat_tests)

number_before : (m n : ℕ) (xs ys : List ℕ) → length xs ≡ length ys → AreBytes xs → AreBytes ys → ltb (number m xs) (number n ys) ≡ cond (ltb m n) true (cond (ltb n m) false (name_before xs ys))
number_before m n [] [] same h k = grind (arith, nat_tests)
number_before m n [] (y ∷ ys) same h k = absurd (omega arith)
number_before m n (x ∷ xs) [] same h k = absurd (omega arith)
number_before m n (x ∷ xs) (y ∷ ys) same h k =
    number_before (m * 256 + x) (n * 256 + y) xs ys (omega arith) (λ i. h (suc i)) (λ i. k (suc i))
    ∙ level_step m n x y (name_before xs ys) (h 0) (k 0)

-- eight bytes, as `from_be_bytes` reads them
eight : (a b c d e f g h : ℕ) → from_be_bytes w64 (a ∷ b ∷ c ∷ d ∷ e ∷ f ∷ g ∷ h ∷ []) ≡ number 0 (a ∷ b ∷ c ∷ d ∷ e ∷ f ∷ g ∷ h ∷ [])
eight a b c d e f g h = omega arith

number_is : (bs : List ℕ) → length bs ≡ 8 → AreBytes bs → from_be_bytes w64 bs ≡ number 0 bs
number_is bs l h = subst (λ bs. from_be_bytes w64 bs ≡ number 0 bs) (be_bytes_8 bs _ l h refl) (eight _ _ _ _ _ _ _ _)

pub before_by_number : (xs ys : List ℕ) → length xs ≡ 8 → length ys ≡ 8 → AreBytes xs → AreBytes ys → ltb (from_be_bytes w64 xs) (from_be_bytes w64 ys) ≡ name_before xs ys
before_by_number xs ys l m h k =
    (λ i. ltb (number_is xs l h i) (number_is ys m k i))
    ∙ number_before 0 0 xs ys (l ∙ sym m) h k

same_step : (m n x y : ℕ) (r : Bool) → x < 256 → y < 256 → (eqb (m * 256 + x) (n * 256 + y) && r) ≡ (eqb m n && (eqb x y && r))
same_step m n x y r h k = grind (arith, nat_tests)

number_same : (m n : ℕ) (xs ys : List ℕ) → length xs ≡ length ys → AreBytes xs → AreBytes ys → eqb (number m xs) (number n ys) ≡ (eqb m n && bytes_eq xs ys)
number_same m n [] [] same h k = grind (arith, nat_tests)
number_same m n [] (y ∷ ys) same h k = absurd (omega arith)
number_same m n (x ∷ xs) [] same h k = absurd (omega arith)
number_same m n (x ∷ xs) (y ∷ ys) same h k =
    number_same (m * 256 + x) (n * 256 + y) xs ys (omega arith) (λ i. h (suc i)) (λ i. k (suc i))
    ∙ same_step m n x y (bytes_eq xs ys) (h 0) (k 0)

pub same_by_number : (xs ys : List ℕ) → length xs ≡ 8 → length ys ≡ 8 → AreBytes xs → AreBytes ys → eqb (from_be_bytes w64 xs) (from_be_bytes w64 ys) ≡ bytes_eq xs ys
same_by_number xs ys l m h k =
    (λ i. eqb (number_is xs l h i) (number_is ys m k i))
    ∙ number_same 0 0 xs ys (l ∙ sym m) h k
