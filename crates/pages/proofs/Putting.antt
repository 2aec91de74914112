-- Bytes put into a buffer one part after another, and the page that stands there then. Assumes nothing.
use Rattle.std.proofs.Common.{◌≡◌, ℕ, ◌+◌, ◌≤◌, List, ◌++◌, length, take, drop, Ok, sym, ap, ◌∙◌, arith}
use Rattle.std.proofs.lemmas.List.{length-append, take_at}
use Rattle.std.proofs.lemmas.Bool.{cond-false, le-ltb}
use Rattle.records.specs.Writing.{over}
use Rattle.records.proofs.Over.{over_append, over_start}
use Rattle.pages.specs.Paged.{Written, fitted}

-- the bytes xs stand in the buffer from its front on, up to the place p
pub record Put (out xs now : List ℕ) (p : ℕ) : Type 0 where
  pub bytes : now ≡ over out 0 xs
  pub place : p ≡ length xs

pub put_then : (out xs ys mid now : List ℕ) (p q : ℕ) → Put out xs mid p → now ≡ over mid p ys → q ≡ p + length ys → Put out (xs ++ ys) now q
put_then out xs ys mid now p q before step here =
    let onto = over_append out 0 xs ys in
    let first = before.bytes in
    let place = before.place in
    let zero : 0 + length xs ≡ p = omega arith in
    let long = length-append xs ys in
    record { bytes = cc; place = omega arith }

pub stands : (page out now : List ℕ) (n : ℕ) → now ≡ over out 0 page → n ≡ length page → length page ≤ length out → Written (fitted page (length out)) page out now (Ok n)
stands page out now n put size h =
    let whole : now ≡ page ++ drop n out = put ∙ over_start out page h ∙ ap (λ (k : ℕ). page ++ drop k out) (sym size) in
    let long = ap length whole ∙ length-append page (drop n out) in
    record {
      answers = ap Ok size ∙ sym (cond-false _ _ _ (le-ltb _ _ h));
      buffer = whole;
      front = (omega arith, ap (take n) whole ∙ take_at page (drop n out) n (sym size));
    }
