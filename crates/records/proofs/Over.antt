-- Bytes written over a buffer.
-- Assumes nothing.
use Rattle.std.proofs.Common.{◌≡◌, ℕ, suc, ◌+◌, ◌-◌, ◌≤◌, List, [], ◌∷◌, ◌++◌, length, take, drop, set, sym, refl, ap, ◌∙◌, append_assoc, append-nil, add-zero, arith}
use borrow.Rule.Slice.PartMut.{put_mid}
use Rattle.std.proofs.lemmas.List.{length_push, length-take-le, length-drop, set_at, take-append-drop, drop_at}
use Rattle.records.specs.Writing.{over}

pub over_append : (out : List ℕ) (at : ℕ) (xs ys : List ℕ) → over out at (xs ++ ys) ≡ over (over out at xs) (at + length xs) ys
over_append out at [] ys = ap (λ n. over out n ys) (sym (add-zero at))
over_append out at (x ∷ xs) ys =
    let same : at + 1 + length xs ≡ at + suc (length xs) = omega arith in
    over_append (set out at x) (at + 1) xs ys ∙ ap (λ n. over (over (set out at x) (at + 1) xs) n ys) same

-- one more part, written behind the others
pub over_then : (out : List ℕ) (at : ℕ) (xs ys mid now : List ℕ) (p : ℕ) → mid ≡ over out at xs → p ≡ at + length xs → now ≡ over mid p ys → now ≡ over out at (xs ++ ys)
over_then out at xs ys mid now p before here step = let onto = over_append out at xs ys in cc

over_from : (done rest bs : List ℕ) → length bs ≤ length rest → over (done ++ rest) (length done) bs ≡ (done ++ bs) ++ drop (length bs) rest
over_from done rest [] h = rw append-nil
over_from done [] (b ∷ bs) h = absurd (omega arith)
over_from done (y ∷ rest) (b ∷ bs) h =
    ap (λ l. over l (length done + 1) bs) (set_at done y rest b (length done) refl ∙ sym (append_assoc done (b ∷ []) rest))
    ∙ ap (λ n. over ((done ++ b ∷ []) ++ rest) n bs) (sym (length_push done b))
    ∙ over_from (done ++ b ∷ []) rest bs (omega arith)
    ∙ ap (λ l. l ++ drop (length bs) rest) (append_assoc done (b ∷ []) bs)

pub over_start : (out bs : List ℕ) → length bs ≤ length out → over out 0 bs ≡ bs ++ drop (length bs) out
over_start out bs h = over_from [] out bs h

-- a copy to a part of the buffer
pub over_mid : (out bs : List ℕ) (at k : ℕ) → k ≡ length bs → at + k ≤ length out → put_mid at k out bs ≡ over out at bs
over_mid out bs at k e h =
    let front : length (take at out) ≡ at = length-take-le at out (omega arith) in
    let rest : length (drop at out) ≡ length out - at = length-drop at out in
    let there = over_from (take at out) (drop at out) bs (omega arith) in
    let whole : over (take at out ++ drop at out) (length (take at out)) bs ≡ over out at bs = rw (take-append-drop at out, front) in
    let part : put_mid at k out bs ≡ (take at out ++ bs) ++ drop (length bs) (drop at out) = rw e (sym (append_assoc (take at out) bs _)) in
    part ∙ sym there ∙ whole

-- what stands from the place on: the bytes, and then what was there behind them
pub drop_over : (out : List ℕ) (at : ℕ) (bs : List ℕ) → at + length bs ≤ length out → drop at (over out at bs) ≡ bs ++ drop (length bs) (drop at out)
drop_over out at bs h =
    ap (drop at) (sym (over_mid out bs at (length bs) refl h)) ∙ drop_at (take at out) (bs ++ drop (length bs) (drop at out)) at (length-take-le at out (omega arith))
