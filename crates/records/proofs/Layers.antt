-- What is read at a place, layer by layer: from a slice's parts to the whole. Assumes nothing.
use Rattle.std.proofs.Common.{◌≡◌, ℕ, ◌+◌, ◌≤◌, Bool, true, false, cond, ◌&&◌, ltb, List, [], ◌∷◌, length, get_or, drop, Some, Ok, Err, Option, Result, sym, refl, ap, ◌∙◌, arith, length-drop}
use Rattle.std.proofs.lemmas.Bool.{cond-false, and_right}
use Rattle.std.proofs.lemmas.Bool.Decides.{nat_tests}
use Rattle.records.specs.declared.causes.Cause.{Cause}
use Rattle.records.specs.declared.causes.Cause.TheVariants.{UnknownKind, CutShort, ForeignBit, FieldAbsent, WrongLetter}
use Rattle.records.specs.Causes.{unless}
use Rattle.records.specs.declared.parts.Kind.{Kind}
use Rattle.records.specs.declared.parts.Record.{Record}
use Rattle.records.specs.Layout.{layout}
use Rattle.records.specs.Fields.{blank}
use Rattle.records.specs.Bytes.{standing, size, foreign, absent, wrong}
use Rattle.records.specs.Reading.{fill, slots_of, absent_of, no_kind, parse, parse_fields, kind_in, map_in}

-- the whole of a known kind from what stands behind its bit map
abbrev pub under : ℕ → Result (ℕ × Record) Cause → Result (ℕ × ℕ × Record) Cause
under k (Ok q) = Ok (k, q.0, q.1)
under k (Err e) = Err e

under_unless : (k : ℕ) (cs : List (Cause × Bool)) (x : ℕ × Record) → unless cs (k, x.0, x.1) ≡ under k (unless cs x)
under_unless k [] x = refl
under_unless k (c ∷ cs) x = by_test c.1 (under_unless k cs x)
  where
    by_test : (b : Bool) → unless cs (k, x.0, x.1) ≡ under k (unless cs x) → cond b (Err c.0) (unless cs (k, x.0, x.1)) ≡ under k (cond b (Err c.0) (unless cs x))
    by_test true ih = refl
    by_test false ih = ih

-- the tests of a record of one kind
abbrev tested : List ℕ → Option Kind → Result (ℕ × ℕ × Record) Cause
tested s o =
    unless
    ((UnknownKind, ltb 0 (length s) && no_kind o)
    ∷ (CutShort, ltb (length s) (3 + size (standing (slots_of o) (map_in s))))
    ∷ (ForeignBit, foreign (slots_of o) (map_in s))
    ∷ (FieldAbsent, absent_of o (map_in s))
    ∷ (WrongLetter, wrong (fill (standing (slots_of o) (map_in s)) (drop 3 s) (blank (map_in s))) (standing (slots_of o) (map_in s)))
    ∷ [])
    (get_or s 0 0, 3 + size (standing (slots_of o) (map_in s)), fill (standing (slots_of o) (map_in s)) (drop 3 s) (blank (map_in s)))

pub known : (s : List ℕ) (k : Kind) → 3 ≤ length s → kind_in s ≡ Some k → parse s ≡ under (get_or s 0 0) (parse_fields k (map_in s) (drop 3 s))
known s k h e =
    let fs = standing (layout k) (map_in s) in
    let r = fill fs (drop 3 s) (blank (map_in s)) in
    let rest : List (Cause × Bool) = (ForeignBit, foreign (layout k) (map_in s)) ∷ (FieldAbsent, absent k (map_in s)) ∷ (WrongLetter, wrong r fs) ∷ [] in
    let some : (ltb 0 (length s) && false) ≡ false = and_right (ltb 0 (length s)) false refl in
    let long = length-drop 3 s in
    let short : ltb (length s) (3 + size fs) ≡ ltb (length (drop 3 s)) (size fs) = grind (arith, nat_tests) in
    ap (tested s) e ∙ cond-false _ _ _ some
    ∙ ap (λ b. unless ((CutShort, b) ∷ rest) (get_or s 0 0, 3 + size fs, r)) short
    ∙ under_unless (get_or s 0 0) ((CutShort, ltb (length (drop 3 s)) (size fs)) ∷ rest) (3 + size fs, r)

-- what was parsed of the parts that a slice pattern gives is what is parsed of the whole
pub known_from : (s : List ℕ) (k : Kind) (l m : ℕ) (rest : List ℕ) (q : Result (ℕ × Record) Cause) → 3 ≤ length s → kind_in s ≡ Some k → l ≡ get_or s 0 0 → m ≡ map_in s → rest ≡ drop 3 s → q ≡ parse_fields k m rest → under l q ≡ parse s
known_from s k l m rest q h e el em er eq =
    ap (under l) eq ∙ ap (λ i. under i (parse_fields k m rest)) el ∙ ap (λ i. under (get_or s 0 0) (parse_fields k i rest)) em ∙ ap (λ bs. under (get_or s 0 0) (parse_fields k (map_in s) bs)) er
    ∙ sym (known s k h e)
