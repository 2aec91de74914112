-- A record and its bytes, there and back: what was written is read as those fields, and what was read is written as the
-- same bytes.
-- Assumes nothing.
use Rattle.std.specs.Prelude.{◌≡◌, ℕ, ◌+◌, ◌-◌, ◌^◌, ◌<◌, ◌≤◌, Bool, false, ◌||◌, List, [], ◌∷◌, length, Ok, slice_index, slice_range}
use Rattle.records.specs.declared.parts.Field.{Field}
use Rattle.records.specs.declared.parts.Record.{Record}
use Rattle.records.specs.declared.parts.Shape.{Shape}
use Rattle.records.specs.declared.parts.Value.{Value}
use Rattle.records.specs.declared.parts.Value.TheVariants.{Number, Letter, Quoted, Name, Letters}
use Rattle.records.specs.Layout.{shape}
use Rattle.records.specs.Fields.{value, kept, blank, same}
use Rattle.records.specs.Bytes.{width}
use Rattle.records.specs.Reading.{read_answer, read_record}
use Rattle.records.specs.Writing.{fields_of, over, write_answer, write_buffer}

-- what the types of the code say of bytes and of records: numbers fit their bytes, a name has eight and a flag four
abbrev pub Bytes : List ℕ → Type 0
Bytes s = (i : ℕ) → slice_index s i < 256

abbrev pub Sized : Shape → Value → Type 0
Sized s (Number n) = n < 256 ^ width s
Sized s (Letter c) = Unit {0}
Sized s (Quoted p) = p.number < 2 ^ 32
Sized s (Name bs) = length bs ≡ 8
Sized s (Letters bs) = length bs ≡ 4

abbrev pub Typed : Record → Type 0
Typed r = (r.map < 2 ^ 16) × ((f : Field) → Sized (shape f) (value f r))

abbrev pub among : List Field → Field → Bool
among [] h = false
among (f ∷ fs) h = same f h || among fs h

-- the record as it is read again: the fields that stand as they are, each other one at its stated value
abbrev pub settled : ℕ → Record → Record
settled k r = kept (among (fields_of k r)) r (blank r.map)

-- what was written, whatever stands around it, is read as that kind and those fields, up to where the next record goes
abbrev pub WriteRead : Type 0
WriteRead =
    (k : ℕ) (r old : Record) (out : List ℕ) (at next : ℕ)
    → Typed r
    → write_answer k r (length out) at ≡ Ok next
    → (read_answer (write_buffer k r out at) at ≡ Ok (k, next)) × (read_record (write_buffer k r out at) at old ≡ settled k r)

-- what was read is written, wherever there is room for it, as the bytes that it was read from
abbrev pub ReadWrite : Type 0
ReadWrite =
    (s : List ℕ) (at k next : ℕ) (old : Record)
    → Bytes s
    → read_answer s at ≡ Ok (k, next)
    → (out : List ℕ) (to : ℕ)
    → to + (next - at) ≤ length out
    → (write_answer k (read_record s at old) (length out) to ≡ Ok (to + (next - at)))
    × (write_buffer k (read_record s at old) out to ≡ over out to (slice_range s at next))
