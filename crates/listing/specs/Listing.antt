-- The text of a file of records: a line for each, until the bytes end or a record's end cannot be told, and the totals.
-- Assumes nothing.
use Rattle.std.specs.Prelude.{◌≡◌, ℕ, zero, suc, ◌+◌, ◌≤◌, Bool, true, false, cond, List, ◌++◌, length, take, is_ok, Some, None, Ok, Err, codes, decimal, Option, Result, nat_le, slice_index}
use Rattle.std.specs.Result.{result_ok}
use Rattle.std.specs.Str.{bytes_eq}
use Rattle.records.specs.declared.causes.Refusal.{Refusal}
use Rattle.records.specs.declared.parts.Record.{Record}
use Rattle.records.specs.Fields.{blank}
use Rattle.records.specs.Layout.{kind_of}
use Rattle.records.specs.Reading.{no_kind, read_answer, read_record, skip_answer}
use Rattle.records.specs.Writing.{write_answer, write_buffer}
use Rattle.listing.specs.Lines.{record_line, refusal_line}

-- the kind letter at a place, or ? where it is unknown
abbrev pub letter_at : List ℕ → ℕ → ℕ
letter_at s at = cond (no_kind (kind_of (slice_index s at))) 63 (slice_index s at)

abbrev pub line_by : ℕ → List ℕ → ℕ → Result (ℕ × ℕ) Refusal → List ℕ
line_by count s at (Ok q) = record_line count at q.0 (read_record s at (blank 0))
line_by count s at (Err e) = refusal_line count at (letter_at s at) e

-- the line of the record at a place
abbrev pub line_at : ℕ → List ℕ → ℕ → List ℕ
line_at count s at = line_by count s at (read_answer s at)

abbrev pub next_by : Result (ℕ × ℕ) Refusal → Result ℕ Refusal → Option ℕ
next_by (Ok q) k = Some q.1
next_by (Err e) k = result_ok k

-- where the next record begins, if the end of this one can be told
abbrev pub next_at : List ℕ → ℕ → Option ℕ
next_at s at = next_by (read_answer s at) (skip_answer s at)

abbrev pub is_read : List ℕ → ℕ → Bool
is_read s at = is_ok (read_answer s at)

abbrev pub same_words : Bool → List ℕ
same_words b = cond b (codes " bytes, all written back the same\n") (codes " bytes, not all written back the same\n")

-- how many records were read and refused, and of how many bytes
abbrev pub totals : Bool → ℕ → ℕ → ℕ → List ℕ
totals b good bad n =
    decimal good ++ (codes " read, " ++ (decimal bad ++ (codes " refused, " ++ (decimal n ++ same_words b))))

abbrev pub then : Option ℕ → (ℕ → List ℕ) → List ℕ → List ℕ
then None f t = t
then (Some next) f t = f next

-- the lines of at most n records from a place on, behind so many that were read and so many that were refused, and then
-- the totals. Every record that is read is written back as the same bytes.
abbrev pub text : ℕ → List ℕ → ℕ → ℕ → ℕ → List ℕ
text zero s at good bad = totals true good bad (length s)
text (suc n) s at good bad =
    cond (nat_le (length s) at) (totals true good bad (length s))
    (line_at (good + bad + 1) s at
    ++ then (next_at s at) (λ next. text n s next (good + cond (is_read s at) 1 0) (bad + cond (is_read s at) 0 1))
    (totals true (good + cond (is_read s at) 1 0) (bad + cond (is_read s at) 0 1) (length s)))

-- what the turn of one record does to the text, the counts and the place
pub record Turned (s : List ℕ) (at : ℕ) (was now : List ℕ) (good bad good' bad' : ℕ) (same same' : Bool) (next : Option ℕ) : Type 0 where
  pub added : now ≡ was ++ line_at (good + bad + 1) s at
  pub read_is : good' ≡ good + cond (is_read s at) 1 0
  pub refused_is : bad' ≡ bad + cond (is_read s at) 0 1
  pub same_is : same' ≡ same
  pub next_is : next ≡ next_at s at

-- the text of a whole file
abbrev pub listing : List ℕ → List ℕ
listing s = text (length s) s 0 0 0

-- as many records as there are bytes are enough: the lines of more of them are the same
abbrev pub Enough : Type 0
Enough = (n : ℕ) (s : List ℕ) → length s ≤ n → text n s 0 0 0 ≡ listing s

abbrev pub same_by : List ℕ → List ℕ → Result ℕ Refusal → Bool
same_by bs now (Ok n) = bytes_eq (take n now) bs
same_by bs now (Err e) = false

-- whether a record is written into a buffer as these bytes
abbrev pub same_again : List ℕ → ℕ → Record → List ℕ → Bool
same_again bs k r out = same_by bs (write_buffer k r out 0) (write_answer k r (length out) 0)
