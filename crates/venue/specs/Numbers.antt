-- The numbers that a day gives: they count up from 1 without gaps.
-- Assumes nothing.
use Rattle.std.specs.Prelude.{◌≡◌, ℕ, zero, suc, ◌+◌, ◌-◌, ◌≢◌, List, [], ◌∷◌, ◌++◌, length, Some, None, Ok, Err, Option, Result}
use Rattle.records.specs.declared.causes.Cause.TheVariants.{DayFull}
use Rattle.records.specs.declared.causes.Refusal.{Refusal}
use Rattle.venue.specs.declared.rows.Acceptance.{Acceptance}
use Rattle.venue.specs.declared.rows.Report.{Report}
use Rattle.venue.specs.Days.{Day}
use Rattle.venue.specs.Pages.{numbers}
use Rattle.venue.specs.Calls.{Call, Call.enter, Call.offer, Call.pull, Call.cancel, Call.accept, Call.file, Call.post, Call.move_clock, Call.ask_price, Call.view, Call.book, Call.close}
use Rattle.venue.specs.Model.{Reply, Opening, open_day, judge, after, answer, next}

-- n numbers from a number on
abbrev pub range : ℕ → ℕ → List ℕ
range first zero = []
range first (suc n) = first ∷ range (first + 1) n

-- the numbers of requests, of quotes and of trades that an answer to a call gives
abbrev pub request_given : Call → Reply → List ℕ
request_given (enter e) r = r.number ∷ []
request_given (offer o) r = []
request_given (pull u q) r = []
request_given (cancel u n) r = []
request_given (accept a) r = []
request_given (file p) r = []
request_given (post p) r = []
request_given (move_clock t) r = []
request_given (ask_price k) r = []
request_given (view u room) r = []
request_given (book u n room) r = []
request_given close r = []

abbrev pub quote_given : Call → Reply → List ℕ
quote_given (enter e) r = []
quote_given (offer o) r = r.number ∷ []
quote_given (pull u q) r = []
quote_given (cancel u n) r = []
quote_given (accept a) r = []
quote_given (file p) r = []
quote_given (post p) r = []
quote_given (move_clock t) r = []
quote_given (ask_price k) r = []
quote_given (view u room) r = []
quote_given (book u n room) r = []
quote_given close r = []

abbrev pub trades_owed : Option Report → List ℕ
trades_owed None = []
trades_owed (Some p) = range p.first (p.last + 1 - p.first)

abbrev pub trades_given : Call → Reply → List ℕ
trades_given c r = trades_owed r.debt

-- what the answers of a run give, one after another
abbrev pub given_by : (Reply → List ℕ) → Result Reply Refusal → List ℕ
given_by f (Ok r) = f r
given_by f (Err e) = []

abbrev pub all_given : (Call → Reply → List ℕ) → Day → List Call → List ℕ
all_given f d [] = []
all_given f d (c ∷ cs) = given_by (f c) (answer d c) ++ all_given f (next d c) cs

-- over every opening and every list of calls
pub record Counted (d : Day) (cs : List Call) : Type 0 where
  pub requests : all_given request_given d cs ≡ numbers (length (after d cs).requests)
  pub quotes : all_given quote_given d cs ≡ numbers (length (after d cs).quotes)
  pub trades : all_given trades_given d cs ≡ numbers (length (after d cs).trades)

abbrev pub NumbersCountUp : Type 0
NumbersCountUp = (o : Opening) (cs : List Call) → Counted (open_day o) cs

-- an acceptance is never refused for want of room for its trades: a quote trades once
abbrev pub TradesHaveRoom : Type 0
TradesHaveRoom = (o : Opening) (cs : List Call) (a : Acceptance) → judge (after (open_day o) cs) (accept a) ≢ Err DayFull
