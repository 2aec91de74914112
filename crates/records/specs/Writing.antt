-- Writing a record: its bytes, the buffer that holds them then, or why it is refused.
-- Assumes nothing.
use Rattle.std.specs.Prelude.{ℕ, ◌+◌, ◌/◌, ◌%◌, Bool, cond, ◌||◌, List, [], ◌∷◌, length, Some, None, Ok, Err, Option, Result, ◌==◌, nat_lt, slice_set}
use Rattle.std.specs.List.{flat_map}
use Rattle.records.specs.declared.causes.Cause.{Cause}
use Rattle.records.specs.declared.causes.Cause.TheVariants.{UnknownKind, ForeignBit, FieldAbsent, WrongLetter, BufferShort}
use Rattle.records.specs.declared.causes.Refusal.{Refusal}
use Rattle.records.specs.declared.parts.Field.{Field}
use Rattle.records.specs.declared.parts.Record.{Record}
use Rattle.records.specs.Causes.{layer, refusal, unless}
use Rattle.records.specs.Layout.{kind_of}
use Rattle.records.specs.Bytes.{field_bytes, standing, size, foreign, wrong}
use Rattle.records.specs.Reading.{slots_of, absent_of, no_kind}

-- the fields that stand in a record of the kind with this letter
abbrev pub fields_of : ℕ → Record → List Field
fields_of k r = standing (slots_of (kind_of k)) r.map

abbrev pub length_of : ℕ → Record → ℕ
length_of k r = 3 + size (fields_of k r)

-- the bytes of a record
abbrev pub encode : ℕ → Record → List ℕ
encode k r = k ∷ r.map % 256 ∷ r.map / 256 % 256 ∷ flat_map (field_bytes r) (fields_of k r)

-- the buffer with these bytes from this place on
abbrev pub over : List ℕ → ℕ → List ℕ → List ℕ
over out at [] = out
over out at (b ∷ bs) = over (slice_set out at b) (at + 1) bs

-- where the next record goes, or why this one does not go into a buffer of this length
abbrev pub judge_write : ℕ → Record → ℕ → ℕ → Result ℕ Cause
judge_write k r room at =
    unless
    ((UnknownKind, no_kind (kind_of k))
    ∷ (ForeignBit, foreign (slots_of (kind_of k)) r.map)
    ∷ (FieldAbsent, absent_of (kind_of k) r.map)
    ∷ (WrongLetter, wrong r (fields_of k r))
    ∷ (BufferShort, nat_lt room (at + length_of k r))
    ∷ [])
    (at + length_of k r)

-- a refusal by the record layer names the place, and one by the book layer names 0
abbrev pub placed : ℕ → Result ℕ Cause → Result ℕ Refusal
placed at (Ok next) = Ok next
placed at (Err e) = Err (refusal e (cond (layer e == 82) at 0))

abbrev pub write_answer : ℕ → Record → ℕ → ℕ → Result ℕ Refusal
write_answer k r room at = placed at (judge_write k r room at)

abbrev pub buffer_of : List ℕ → ℕ → List ℕ → Result ℕ Cause → List ℕ
buffer_of out at bs (Ok next) = over out at bs
buffer_of out at bs (Err e) = out

-- the buffer afterwards: on a refusal, as it was
abbrev pub write_buffer : ℕ → Record → List ℕ → ℕ → List ℕ
write_buffer k r out at = buffer_of out at (encode k r) (judge_write k r (length out) at)

-- a record laid into a buffer whatever its fields hold: only a letter of no kind and a lack of room stop it
abbrev pub no_laying : ℕ → Record → ℕ → ℕ → Bool
no_laying k r room at = no_kind (kind_of k) || nat_lt room (at + length (encode k r))

abbrev pub laid_answer : ℕ → Record → ℕ → ℕ → Option ℕ
laid_answer k r room at = cond (no_laying k r room at) None (Some (at + length (encode k r)))

abbrev pub laid_buffer : ℕ → Record → List ℕ → ℕ → List ℕ
laid_buffer k r out at = cond (no_laying k r (length out) at) out (over out at (encode k r))
