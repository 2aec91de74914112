-- The text of a file, one record at a time. Assumes nothing.
use Rattle.std.proofs.Common.{◌≡◌, ℕ, zero, suc, ◌+◌, ◌<◌, ◌≤◌, cond, leb, List, [], ◌++◌, length, Option, Result, sym, refl, ap, ◌∙◌, append_assoc, arith}
use Rattle.std.proofs.lemmas.Bool.{cond-true, cond-false, le-leb, lt-leb}
use Rattle.records.specs.declared.causes.Refusal.{Refusal}
use Rattle.venue.specs.Model.{Reply}
use Rattle.listing.specs.Listing.{letter_at, next_at, then}
use Rattle.listing.proofs.Runs.{moves, then_same}
use Rattle.transcript.specs.Runs.{State, start}
use Rattle.transcript.specs.Said.{head_text, line}
use Rattle.transcript.specs.Texts.{turn, line_at, text, Turned, Enough}

module _ (room : ℕ) where
  -- nothing is left
  pub text_done : (n : ℕ) (s : List ℕ) (at count : ℕ) (st : State) → length s ≤ at → text room n s at count st ≡ []
  text_done zero s at count st h = refl
  text_done (suc n) s at count st h = cond-true _ _ _ (le-leb _ _ h)

  module _ (s : List ℕ) (at count left : ℕ) (st st' : State) (was now : List ℕ) (said : Result Reply Refusal) (next : Option ℕ) (inside : at < length s) (t : Turned room s at st st' said next) (added : now ≡ was ++ line count (letter_at s at) said) where
    -- the text with the line that was added, and then what comes behind it
    pub turned : now ++ then next (λ p. text room left s p (count + 1) st') [] ≡ was ++ text room (suc left) s at count st
    turned =
        let rest : Option ℕ → State → List ℕ = λ o z. then o (λ p. text room left s p (count + 1) z) [] in
        let head : List ℕ = head_text count (letter_at s at) in
        sym
        (ap (λ l. was ++ l) (cond-false _ _ _ (lt-leb _ _ inside))
        ∙ sym (append_assoc was (line_at room count s at st) _)
        ∙ ap (λ l. was ++ (head ++ l) ++ rest (next_at s at) (turn room s at st).after) (sym t.said_is)
        ∙ ap (λ l. l ++ rest (next_at s at) (turn room s at st).after) (sym added)
        ∙ ap (λ z. now ++ rest (next_at s at) z) (sym t.state_is)
        ∙ ap (λ o. now ++ rest o st') (sym t.next_is))

  enough_from : (n m : ℕ) (s : List ℕ) (at count : ℕ) (st : State) → n ≤ m → length s ≤ at + n → text room m s at count st ≡ text room n s at count st
  enough_from zero m s at count st h k = text_done m s at count st (omega arith)
  enough_from (suc n) zero s at count st h k = absurd (omega arith)
  enough_from (suc n) (suc m) s at count st h k =
      let st' = (turn room s at st).after in
      let rest = then_same (next_at s at) (λ p. text room m s p (count + 1) st') (λ p. text room n s p (count + 1) st') []
      (λ p e. let f = moves s at p e in enough_from n m s p (count + 1) st' (omega arith) (omega arith)) in
      ap (λ l. cond (leb (length s) at) [] (line_at room count s at st ++ l)) rest

pub enough : Enough
enough n s h = enough_from 32768 (length s) n s 0 1 start h (omega arith)
