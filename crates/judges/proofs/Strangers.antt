-- What is found by going through users or trades. Assumes nothing.
use Rattle.std.proofs.Common.{◌≡◌, ℕ, zero, suc, ◌+◌, Bool, true, false, not, ◌&&◌, ◌||◌, List, [], ◌∷◌, ◌++◌, refl, ap, ◌∙◌, arith}
use Rattle.std.specs.List.{list_any, range_with_len}
use Rattle.std.proofs.lemmas.List.Folds.{list_any-append}
use Rattle.venue.specs.declared.rows.Trade.{Trade}
use Rattle.venue.specs.Days.{Day, bit, user_of}
use Rattle.venue.specs.Calls.{has_stranger, unfiled}

pub any_unfiled : (ts : List Trade) → list_any (λ (t : Trade). not t.filed) ts ≡ unfiled ts
any_unfiled [] = refl
any_unfiled (t ∷ ts) = ap (λ b. not t.filed || b) (any_unfiled ts)

-- a range up to a number ends in the one below it
range_more : (a n : ℕ) → range_with_len a (suc n) ≡ range_with_len a n ++ (a + n) ∷ []
range_more a zero = let e : a ≡ a + 0 = omega arith in ap (λ k. k ∷ []) e
range_more a (suc n) =
    let e : a + 1 + n ≡ a + suc n = omega arith in
    ap (λ l. a ∷ l) (range_more (a + 1) n ∙ ap (λ k. range_with_len (a + 1) n ++ k ∷ []) e)

pub neither : (a b c : Bool) → (a || b) ≡ false → (a || (b || c)) ≡ c
neither true b c h = ap (λ e. e || c) h
neither false true c h = ap (λ e. e || c) h
neither false false c h = refl

module _ (d : Day) (set : ℕ) where
  abbrev pub strange : ℕ → Bool
  strange n = bit set n && not (user_of d n).entered

  or_no : (a b : Bool) → (a || (b || false)) ≡ (b || a)
  or_no true true = refl
  or_no true false = refl
  or_no false true = refl
  or_no false false = refl

  pub any_stranger : (n : ℕ) → list_any strange (range_with_len 0 n) ≡ has_stranger d set n
  any_stranger zero = refl
  any_stranger (suc n) =
      let e : 0 + n ≡ n = omega arith in
      ap (list_any strange) (range_more 0 n ∙ ap (λ k. range_with_len 0 n ++ k ∷ []) e)
      ∙ list_any-append strange (range_with_len 0 n) (n ∷ [])
      ∙ or_no (list_any strange (range_with_len 0 n)) (strange n)
      ∙ ap (λ b. strange n || b) (any_stranger n)
