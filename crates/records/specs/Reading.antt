-- Reading a record: which one the bytes begin with, or why there is none.
-- Assumes nothing.
use Rattle.std.specs.Prelude.{ℕ, ◌+◌, ◌*◌, Bool, true, false, ◌&&◌, List, [], ◌∷◌, length, drop, Some, None, Ok, Err, Option, Result, nat_lt, slice_index}
use Rattle.records.specs.declared.causes.Cause.{Cause}
use Rattle.records.specs.declared.causes.Cause.TheVariants.{UnknownKind, CutShort, ForeignBit, FieldAbsent, WrongLetter}
use Rattle.records.specs.declared.causes.Refusal.{Refusal}
use Rattle.records.specs.declared.parts.Field.{Field}
use Rattle.records.specs.declared.parts.Kind.{Kind}
use Rattle.records.specs.declared.parts.Record.{Record}
use Rattle.records.specs.declared.parts.Slot.{Slot}
use Rattle.records.specs.Causes.{refusal, unless}
use Rattle.records.specs.Layout.{kind_of, layout, shape}
use Rattle.records.specs.Fields.{decoded, kept, blank, same}
use Rattle.records.specs.Bytes.{width, standing, size, foreign, absent, wrong}

-- the fields, one after the other, from bytes into a record
abbrev pub fill : List Field → List ℕ → Record → Record
fill [] s r = r
fill (f ∷ fs) s r = fill fs (drop (width (shape f)) s) (kept (same f) (decoded s) r)

-- an unknown kind has no fields
abbrev pub slots_of : Option Kind → List Slot
slots_of None = []
slots_of (Some k) = layout k

abbrev pub absent_of : Option Kind → ℕ → Bool
absent_of None m = false
absent_of (Some k) m = absent k m

abbrev pub no_kind : Option Kind → Bool
no_kind None = true
no_kind (Some k) = false

-- what bytes begin with, if they begin with a record
abbrev pub kind_in : List ℕ → Option Kind
kind_in s = kind_of (slice_index s 0)

abbrev pub map_in : List ℕ → ℕ
map_in s = slice_index s 1 + slice_index s 2 * 256

abbrev pub fields_in : List ℕ → List Field
fields_in s = standing (slots_of (kind_in s)) (map_in s)

abbrev pub record_in : List ℕ → Record
record_in s = fill (fields_in s) (drop 3 s) (blank (map_in s))

abbrev pub length_in : List ℕ → ℕ
length_in s = 3 + size (fields_in s)

-- the kind letter, the length and the fields of the record that bytes begin with
abbrev pub parse : List ℕ → Result (ℕ × ℕ × Record) Cause
parse s =
    unless
    ((UnknownKind, nat_lt 0 (length s) && no_kind (kind_in s))
    ∷ (CutShort, nat_lt (length s) (length_in s))
    ∷ (ForeignBit, foreign (slots_of (kind_in s)) (map_in s))
    ∷ (FieldAbsent, absent_of (kind_in s) (map_in s))
    ∷ (WrongLetter, wrong (record_in s) (fields_in s))
    ∷ [])
    (slice_index s 0, length_in s, record_in s)

-- the same of what stands behind the bit map of a known kind
abbrev pub parse_fields : Kind → ℕ → List ℕ → Result (ℕ × Record) Cause
parse_fields k m s =
    unless
    ((CutShort, nat_lt (length s) (size (standing (layout k) m)))
    ∷ (ForeignBit, foreign (layout k) m)
    ∷ (FieldAbsent, absent k m)
    ∷ (WrongLetter, wrong (fill (standing (layout k) m) s (blank m)) (standing (layout k) m))
    ∷ [])
    (3 + size (standing (layout k) m), fill (standing (layout k) m) s (blank m))

abbrev pub answer_of : ℕ → Result (ℕ × ℕ × Record) Cause → Result (ℕ × ℕ) Refusal
answer_of at (Ok q) = Ok (q.0, at + q.1)
answer_of at (Err e) = Err (refusal e at)

abbrev pub record_of : Record → Result (ℕ × ℕ × Record) Cause → Record
record_of old (Ok q) = q.2
record_of old (Err e) = old

-- what a reading at a place answers: the kind letter and the place of the next record
abbrev pub read_answer : List ℕ → ℕ → Result (ℕ × ℕ) Refusal
read_answer s at = answer_of at (parse (drop at s))

-- what it leaves in the record that was lent: on a refusal, what was there
abbrev pub read_record : List ℕ → ℕ → Record → Record
read_record s at old = record_of old (parse (drop at s))

-- how long the record is that bytes begin with: the three causes that leave its end unknown come first
abbrev pub measure : List ℕ → Result ℕ Cause
measure s =
    unless
    ((UnknownKind, nat_lt 0 (length s) && no_kind (kind_in s))
    ∷ (CutShort, nat_lt (length s) (length_in s))
    ∷ (ForeignBit, foreign (slots_of (kind_in s)) (map_in s))
    ∷ [])
    (length_in s)

-- the same of what stands behind the bit map of a known kind
abbrev pub measure_fields : Kind → ℕ → List ℕ → Result ℕ Cause
measure_fields k m s =
    unless
    ((CutShort, nat_lt (length s) (size (standing (layout k) m)))
    ∷ (ForeignBit, foreign (layout k) m)
    ∷ [])
    (3 + size (standing (layout k) m))

abbrev pub end_of : ℕ → Result ℕ Cause → Result ℕ Refusal
end_of at (Ok n) = Ok (at + n)
end_of at (Err e) = Err (refusal e at)

-- where the record ends that begins at a place
abbrev pub skip_answer : List ℕ → ℕ → Result ℕ Refusal
skip_answer s at = end_of at (measure (drop at s))
