-- Where a record ends that was read or passed over. Assumes nothing.
use Rattle.std.proofs.Common.{◌≡◌, ℕ, ◌+◌, ◌≤◌, Bool, ◌&&◌, ltb, List, [], ◌∷◌, length, get_or, drop, Some, None, Ok, Err, Option, Result, sym, refl, ap, arith}
use Rattle.records.specs.declared.causes.Cause.{Cause}
use Rattle.records.specs.declared.causes.Cause.TheVariants.{UnknownKind, CutShort, ForeignBit}
use Rattle.records.specs.declared.parts.Kind.{Kind}
use Rattle.records.specs.declared.parts.Kind.TheVariants as kind
use Rattle.records.specs.declared.parts.Record.{Record}
use Rattle.records.specs.Layout.{layout}
use Rattle.records.specs.Fields.{blank}
use Rattle.records.specs.Bytes.{foreign}
use Rattle.records.specs.Reading.{slots_of, no_kind, kind_in, map_in, fields_in, length_in, record_in, parse, measure, end_of, read_answer, skip_answer}
use Rattle.records.proofs.Back.{tests, opened}
use Rattle.records.proofs.Standings.{size_most, standing_few}
use Rattle.records.proofs.Unless.{granted}

-- a record is at least its kind and its map, and no longer than all its fields
few : (o : Option Kind) → length (slots_of o) ≤ 16
few None = omega arith
few (Some k) = kinds k
  where
    kinds : (k : Kind) → length (layout k) ≤ 16
    kinds kind.NewUser = omega arith
    kinds kind.NewSymbol = omega arith
    kinds kind.Opening = omega arith
    kinds kind.Entry = omega arith
    kinds kind.Quoting = omega arith
    kinds kind.Pull = omega arith
    kinds kind.Cancel = omega arith
    kinds kind.Acceptance = omega arith
    kinds kind.Clock = omega arith
    kinds kind.Posting = omega arith
    kinds kind.PriceQuestion = omega arith
    kinds kind.ViewQuestion = omega arith
    kinds kind.BookQuestion = omega arith
    kinds kind.Closing = omega arith
    kinds kind.RequestLine = omega arith
    kinds kind.QuoteLine = omega arith
    kinds kind.TradeLine = omega arith
    kinds kind.ExecutableLine = omega arith

pub length_most : (t : List ℕ) → length_in t ≤ 131
length_most t =
    let slots = few (kind_in t) in
    let fields = standing_few (slots_of (kind_in t)) (map_in t) in
    let bytes = size_most (fields_in t) in
    omega arith

pub read_ends : (s : List ℕ) (at k next : ℕ) → read_answer s at ≡ Ok (k, next) → (at + 3 ≤ next) × (next ≤ at + 131)
read_ends s at k next e =
    let t = drop at s in
    let o = opened (parse t) at k next (blank 0) e in
    let g = granted (tests t) (get_or t 0 0, length_in t, record_in t) _ o.1 in
    let n : length_in t ≡ o.0 = ap (λ (q : ℕ × ℕ × Record). q.1) g.1 in
    let h = length_most t in
    let p = o.2 in
    (omega arith, omega arith)

ended : (q : Result ℕ Cause) (at next : ℕ) → end_of at q ≡ Ok next → (n : ℕ) × (q ≡ Ok n) × (next ≡ at + n)
ended (Ok n) at next e = (n, refl, let z : at + n ≡ next = cc in sym z)
ended (Err c) at next e = let z : ◌≡◌ {A = ℕ} 0 1 = cc in absurd (omega arith)

pub skip_ends : (s : List ℕ) (at next : ℕ) → skip_answer s at ≡ Ok next → at + 3 ≤ next
skip_ends s at next e =
    let t = drop at s in
    let o = ended (measure t) at next e in
    let cs : List (Cause × Bool) =
    (UnknownKind, ltb 0 (length t) && no_kind (kind_in t)) ∷ (CutShort, ltb (length t) (length_in t)) ∷ (ForeignBit, foreign (slots_of (kind_in t)) (map_in t)) ∷ []
    in
    let g = granted cs (length_in t) o.0 o.1 in
    let n = g.1 in
    let p = o.2 in
    omega arith
