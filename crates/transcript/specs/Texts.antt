-- The text of a file of records: a line for each, until the bytes end or the end of a record cannot be told.
-- Assumes nothing.
use Rattle.std.specs.Prelude.{◌≡◌, ℕ, zero, suc, ◌+◌, ◌≤◌, cond, List, [], ◌++◌, length, Some, None, Ok, Err, Option, Result, nat_le}
use Rattle.records.specs.declared.causes.Refusal.{Refusal}
use Rattle.records.specs.declared.parts.Kind.{Kind}
use Rattle.records.specs.declared.parts.Record.{Record}
use Rattle.records.specs.Fields.{blank}
use Rattle.records.specs.Layout.{kind_of}
use Rattle.records.specs.Reading.{read_answer, read_record}
use Rattle.listing.specs.Listing.{letter_at, next_at, then}
use Rattle.transcript.specs.Runs.{State, Asked, Asked.nothing, Done, asked, done, start}
use Rattle.venue.specs.Model.{Reply}
use Rattle.transcript.specs.Said.{line, said_text}

-- what is asked for in a record at a place was answered so, as its line shows it, and leaves the day so
pub record Answered (at : ℕ) (st : State) (a : Asked) (st' : State) (said : Result Reply Refusal) : Type 0 where
  pub said_is : said_text said ≡ said_text (done at st a).said
  pub state_is : st' ≡ (done at st a).after

-- what a record that was read asks for; a letter that is read is that of a kind
abbrev pub asked_by : ℕ → Option Kind → Record → Asked
asked_by room None r = nothing
asked_by room (Some k) r = asked room k r

-- with a buffer that has room for so many bytes
module _ (room : ℕ) where
  abbrev pub turn_by : List ℕ → ℕ → State → Result (ℕ × ℕ) Refusal → Done
  turn_by s at st (Ok q) = done at st (asked_by room (kind_of q.0) (read_record s at (blank 0)))
  turn_by s at st (Err e) = record { said = Err e; after = st }

  -- what the record at a place comes to
  abbrev pub turn : List ℕ → ℕ → State → Done
  turn s at st = turn_by s at st (read_answer s at)

  abbrev pub line_at : ℕ → List ℕ → ℕ → State → List ℕ
  line_at count s at st = line count (letter_at s at) (turn s at st).said

  -- the lines of at most n records from a place on, the first with a count, from where the run stands
  abbrev pub text : ℕ → List ℕ → ℕ → ℕ → State → List ℕ
  text zero s at count st = []
  text (suc n) s at count st =
      cond (nat_le (length s) at) []
      (line_at count s at st ++ then (next_at s at) (λ next. text n s next (count + 1) (turn s at st).after) [])

  -- what the turn of one record comes to: it is answered so, as its line shows it, leaves the day so, and the next record
  -- begins there, if that can be told
  pub record Turned (s : List ℕ) (at : ℕ) (st st' : State) (said : Result Reply Refusal) (next : Option ℕ) : Type 0 where
    pub said_is : said_text said ≡ said_text (turn s at st).said
    pub state_is : st' ≡ (turn s at st).after
    pub next_is : next ≡ next_at s at

-- the text of a whole file, with a buffer of 32,768 bytes
abbrev pub transcript : List ℕ → List ℕ
transcript s = text 32768 (length s) s 0 1 start

-- as many records as there are bytes are enough: the lines of more of them are the same
abbrev pub Enough : Type 0
Enough = (n : ℕ) (s : List ℕ) → length s ≤ n → text 32768 n s 0 1 start ≡ transcript s
