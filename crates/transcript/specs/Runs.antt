-- What one record of a file does to the day: the part of the day that takes its kind, the call that it makes, the answer,
-- and where the day stands then.
-- Assumes nothing.
use Rattle.std.specs.Prelude.{ℕ, cond, not, ◌&&◌, List, replicate, Some, None, Ok, Err, Option, Result}
use Rattle.records.specs.declared.causes.Cause.TheVariants.{OutOfPart}
use Rattle.records.specs.declared.causes.Refusal.{Refusal}
use Rattle.records.specs.declared.parts.Kind.{Kind}
use Rattle.records.specs.declared.parts.Kind.TheVariants as kind
use Rattle.records.specs.declared.parts.Record.{Record}
use Rattle.records.specs.Causes.{refusal}
use Rattle.prices.specs.declared.rows.Row.{Row}
use Rattle.prices.specs.declared.rows.Row.TheVariants.{Never}
use Rattle.prices.specs.Rows.{Screen, bare, fresh, uncrossed}
use Rattle.venue.specs.declared.rows.Acceptance.{Acceptance}
use Rattle.venue.specs.declared.rows.Report.{Report}
use Rattle.venue.specs.Days.{Day}
use Rattle.venue.specs.Calls.{Call, Call.enter, Call.offer, Call.pull, Call.cancel, Call.accept, Call.file, Call.post, Call.move_clock, Call.ask_price, Call.view, Call.book, Call.close, is_view}
use Rattle.venue.specs.Model.{Reply, a_number, answer, next, open_day}
use Rattle.venue.specs.Setting.{Setting, SetupCall, SetupCall.add_user, SetupCall.add_symbol, nothing_set, setup_answer, setup_next, opening_of}
use Rattle.day.specs.Told.{told_done}
use Rattle.calls.specs.Made.{new_user_of, new_symbol_of, entry_of, offering_of, acceptance_of, posting_of, price_question_of}

-- where a run stands: a day that is being set up, with the meaning of the source that it will open over, or one that was
-- opened and trades or is closed
pub data State : Type 0 where
  setting : Setting → List Row → Screen → State
  running : Day → State

-- at first nothing is set up, and the source is the crossed screen over the age screen, with a limit of 60,000, over a sheet
-- with nothing posted
abbrev pub start : State
start = State.setting nothing_set (replicate 64 Never) (uncrossed (fresh 60000 bare))

-- what a record asks for: to set something up, to open the day with a number, an acceptance, or another call of the day; the
-- kinds that only answers hold ask for nothing
pub data Asked : Type 0 where
  to_set_up : SetupCall → Asked
  to_open : (day : ℕ) → Asked
  to_accept : Acceptance → Asked
  to_call : Call → Asked
  nothing : Asked

-- what a record of each kind asks for; a view and a book question have a buffer with room for so many bytes
abbrev pub asked : ℕ → Kind → Record → Asked
asked room kind.NewUser r = Asked.to_set_up (add_user (new_user_of r))
asked room kind.NewSymbol r = Asked.to_set_up (add_symbol (new_symbol_of r))
asked room kind.Opening r = Asked.to_open r.day
asked room kind.Entry r = Asked.to_call (enter (entry_of r))
asked room kind.Quoting r = Asked.to_call (offer (offering_of r))
asked room kind.Pull r = Asked.to_call (pull r.user r.quote)
asked room kind.Cancel r = Asked.to_call (cancel r.user r.request)
asked room kind.Acceptance r = Asked.to_accept (acceptance_of r)
asked room kind.Clock r = Asked.to_call (move_clock r.time)
asked room kind.Posting r = Asked.to_call (post (posting_of r))
asked room kind.PriceQuestion r = Asked.to_call (ask_price (price_question_of r))
asked room kind.ViewQuestion r = Asked.to_call (view r.user room)
asked room kind.BookQuestion r = Asked.to_call (book r.user r.request room)
asked room kind.Closing r = Asked.to_call close
asked room kind.RequestLine r = Asked.nothing
asked room kind.QuoteLine r = Asked.nothing
asked room kind.TradeLine r = Asked.nothing
asked room kind.ExecutableLine r = Asked.nothing

-- what one record comes to: what is answered, and where the run stands then
pub record Done : Type 0 where
  pub said : Result Reply Refusal
  pub after : State

-- a kind that this part of the day does not take, in a record at a place
abbrev pub out_of_part : ℕ → State → Done
out_of_part at st = record { said = Err (refusal OutOfPart at); after = st }

abbrev pub called : Day → Call → Done
called d c = record { said = answer d c; after = State.running (next d c) }

-- the debt of an acceptance is filed directly after it
abbrev pub with_filed : Day → Option Report → Day
with_filed d None = d
with_filed d (Some r) = next d (file r)

abbrev pub with_debt : Day → Result Reply Refusal → Day
with_debt d (Ok r) = with_filed d r.debt
with_debt d (Err e) = d

abbrev pub accepted : Day → Acceptance → Done
accepted d a =
    record {
      said = answer d (accept a);
      after = State.running (with_debt (next d (accept a)) (answer d (accept a)));
    }

-- what is asked for in a record at a place
abbrev pub done : ℕ → State → Asked → Done
done at (State.setting s rows screen) (Asked.to_set_up c) =
    record { said = told_done (setup_answer s c); after = State.setting (setup_next s c) rows screen }
done at (State.setting s rows screen) (Asked.to_open day) =
    record { said = a_number 0; after = State.running (open_day (opening_of s day rows screen)) }
done at (State.setting s rows screen) (Asked.to_accept a) = out_of_part at (State.setting s rows screen)
done at (State.setting s rows screen) (Asked.to_call c) = out_of_part at (State.setting s rows screen)
done at (State.setting s rows screen) Asked.nothing = out_of_part at (State.setting s rows screen)
done at (State.running d) (Asked.to_set_up c) = out_of_part at (State.running d)
done at (State.running d) (Asked.to_open day) = out_of_part at (State.running d)
done at (State.running d) (Asked.to_accept a) = cond d.closed (out_of_part at (State.running d)) (accepted d a)
done at (State.running d) (Asked.to_call c) =
    cond (d.closed && not (is_view c)) (out_of_part at (State.running d)) (called d c)
done at (State.running d) Asked.nothing = out_of_part at (State.running d)
