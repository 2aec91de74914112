-- What the text of a file goes by: where a run ends, what each part of the day takes, and that debts are filed.
-- Assumes nothing.
use Rattle.std.specs.Prelude.{◌≡◌, ℕ, ◌+◌, Bool, false, cond, List, drop, Some, None, Ok, Err, codes, Result, nat_le}
use Rattle.records.specs.declared.causes.Refusal.{Refusal}
use Rattle.records.specs.Bytes.{one_of}
use Rattle.records.specs.Causes.{number}
use Rattle.records.specs.Reading.{length_in, read_answer}
use Rattle.venue.specs.declared.rows.Acceptance.{Acceptance}
use Rattle.venue.specs.declared.rows.Report.{Report}
use Rattle.venue.specs.Calls.{Call.accept, Call.file}
use Rattle.venue.specs.Days.{Day}
use Rattle.venue.specs.Model.{Reply, a_number, answer, next}
use Rattle.listing.specs.Listing.{next_at}
use Rattle.transcript.specs.Runs.{State, State.setting, State.running, out_of_part}
use Rattle.transcript.specs.Texts.{turn}

abbrev pub ends_run : Result (ℕ × ℕ) Refusal → Bool
ends_run (Ok q) = false
ends_run (Err e) = nat_le (number e.cause) 3

-- after 1, 2 or 3 a run ends; after anything else it goes on where the standing fields of the record end
abbrev pub GoesOn : Type 0
GoesOn =
    (s : List ℕ) (at : ℕ)
    → next_at s at ≡ cond (ends_run (read_answer s at)) None (Some (at + length_in (drop at s)))

-- the letters that each part of the day takes
abbrev pub takes : State → List ℕ
takes (setting s rows screen) = codes "USO"
takes (running d) = cond d.closed (codes "V") (codes "RQPXATMKVBC")

-- a record with any other letter is refused by 6 with its place, and leaves the day as it was; but what the reader refuses
-- is refused as the reader does
pub record Parts : Type 0 where
  pub other : (room : ℕ) (s : List ℕ) (at k next : ℕ) (st : State) → read_answer s at ≡ Ok (k, next) → one_of (takes st) k ≡ false → turn room s at st ≡ out_of_part at st
  pub unread : (room : ℕ) (s : List ℕ) (at : ℕ) (e : Refusal) (st : State) → read_answer s at ≡ Err e → turn room s at st ≡ record { said = Err e; after = st }

-- the debt of an acceptance can be filed directly after it
abbrev pub Files : Type 0
Files =
    (d : Day) (a : Acceptance) (r : Reply)
    → answer d (accept a) ≡ Ok r
    → (p : Report) × (r.debt ≡ Some p) × (answer (next d (accept a)) (file p) ≡ a_number 0)
