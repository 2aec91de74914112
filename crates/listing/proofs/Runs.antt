-- The text of a file, one record at a time. Assumes nothing.
use Rattle.std.proofs.Common.{◌≡◌, ℕ, zero, suc, ◌+◌, ◌-◌, ◌<◌, ◌≤◌, Bool, true, false, cond, leb, List, ◌++◌, length, Some, None, Ok, Err, Option, Result, sym, refl, ap, ◌∙◌, append_assoc, arith}
use Rattle.std.proofs.lemmas.Bool.{cond-true, cond-false, le-leb, lt-leb}
use Rattle.records.specs.declared.causes.Refusal.{Refusal}
use Rattle.records.specs.Reading.{read_answer, skip_answer}
use Rattle.records.proofs.Ends.{read_ends, skip_ends}
use Rattle.listing.specs.Listing.{line_at, next_by, next_at, is_read, totals, then, text, Turned, Enough}

-- nothing is left
pub text_done : (n : ℕ) (s : List ℕ) (at good bad : ℕ) → length s ≤ at → text n s at good bad ≡ totals true good bad (length s)
text_done zero s at good bad h = refl
text_done (suc n) s at good bad h = cond-true _ _ _ (le-leb _ _ h)

-- the next record begins behind this one
moves_by : (s : List ℕ) (at p : ℕ) (q : Result (ℕ × ℕ) Refusal) (k : Result ℕ Refusal) → read_answer s at ≡ q → skip_answer s at ≡ k → next_by q k ≡ Some p → at + 3 ≤ p
moves_by s at p (Ok q) k e h n = let r = read_ends s at q.0 q.1 e in let z : q.1 ≡ p = cc in omega arith
moves_by s at p (Err x) (Ok m) e h n = let r = skip_ends s at m h in let z : m ≡ p = cc in omega arith
moves_by s at p (Err x) (Err y) e h n = let z : ◌≡◌ {A = ℕ} 0 1 = cc in absurd (omega arith)

pub moves : (s : List ℕ) (at p : ℕ) → next_at s at ≡ Some p → at + 3 ≤ p
moves s at p e = moves_by s at p (read_answer s at) (skip_answer s at) refl refl e

pub then_same : (o : Option ℕ) (f g : ℕ → List ℕ) (t : List ℕ) → ((p : ℕ) → o ≡ Some p → f p ≡ g p) → then o f t ≡ then o g t
then_same None f g t h = refl
then_same (Some p) f g t h = h p refl

enough_from : (n m : ℕ) (s : List ℕ) (at good bad : ℕ) → n ≤ m → length s ≤ at + n → text m s at good bad ≡ text n s at good bad
enough_from zero m s at good bad h k = text_done m s at good bad (omega arith)
enough_from (suc n) zero s at good bad h k = absurd (omega arith)
enough_from (suc n) (suc m) s at good bad h k =
    let g = good + cond (is_read s at) 1 0 in
    let b = bad + cond (is_read s at) 0 1 in
    let rest = then_same (next_at s at) (λ p. text m s p g b) (λ p. text n s p g b) (totals true g b (length s))
    (λ p e. let f = moves s at p e in enough_from n m s p g b (omega arith) (omega arith)) in
    ap (λ l. cond (leb (length s) at) (totals true good bad (length s)) (line_at (good + bad + 1) s at ++ l)) rest

module _ (s : List ℕ) (at good bad good' bad' : ℕ) (was now : List ℕ) (same same' : Bool) (next : Option ℕ) (inside : at < length s) (t : Turned s at was now good bad good' bad' same same' next) where
  -- the text with the line that was added, and then what comes behind it
  pub turned : was ++ text (length s) s at good bad ≡ now ++ then next (λ p. text (length s) s p good' bad') (totals true good' bad' (length s))
  turned =
      let n = length s - 1 in
      let fuel : length s ≡ suc n = omega arith in
      let g = good + cond (is_read s at) 1 0 in
      let b = bad + cond (is_read s at) 0 1 in
      let line = line_at (good + bad + 1) s at in
      let rest : Option ℕ → ℕ → ℕ → List ℕ = λ o g b. then o (λ p. text (length s) s p g b) (totals true g b (length s)) in
      let same_rest = then_same (next_at s at) (λ p. text n s p g b) (λ p. text (length s) s p g b) (totals true g b (length s))
      (λ p e. let f = moves s at p e in sym (enough_from n (length s) s p g b (omega arith) (omega arith))) in
      ap (λ k. was ++ text k s at good bad) fuel
      ∙ ap (λ l. was ++ l) (cond-false _ _ _ (lt-leb _ _ inside))
      ∙ ap (λ l. was ++ (line ++ l)) same_rest
      ∙ sym (append_assoc was line _)
      ∙ ap (λ l. l ++ rest (next_at s at) g b) (sym t.added)
      ∙ ap (λ g. now ++ rest (next_at s at) g b) (sym t.read_is)
      ∙ ap (λ b. now ++ rest (next_at s at) good' b) (sym t.refused_is)
      ∙ ap (λ o. now ++ rest o good' bad') (sym t.next_is)

  -- each turn counts one record
  pub counted : good' + bad' ≡ good + bad + 1
  counted = by_test (is_read s at) t.read_is t.refused_is
    where
      by_test : (b : Bool) → good' ≡ good + cond b 1 0 → bad' ≡ bad + cond b 0 1 → good' + bad' ≡ good + bad + 1
      by_test true g b = omega arith
      by_test false g b = omega arith

pub enough : Enough
enough n s h = enough_from (length s) n s 0 0 0 h (omega arith)
