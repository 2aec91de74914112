-- What a call's result says, as an answer of the model, and what a call does to the day.
-- Assumes nothing.
use Rattle.std.specs.Prelude.{◌≡◌, ℕ, ◌≤◌, List, [], ◌++◌, length, take, drop, IfOk, Some, None, Ok, Err, Result}
use Rattle.records.specs.declared.causes.Refusal.{Refusal}
use Rattle.prices.specs.declared.rows.Row.{Row}
use Rattle.prices.specs.Rows.{Screen}
use Rattle.prices.specs.declared.sources.Source.{Ghosts}
use Rattle.tables.specs.Priced.{market_day}
use Rattle.venue.specs.Days.{Day}
use Rattle.venue.specs.Calls.{Call}
use Rattle.venue.specs.Model.{Reply, a_number, answer, next, shut}
use Rattle.day.specs.declared.forms.Trading.{Trading}
use Rattle.day.specs.declared.forms.Closed.{Closed}
use Rattle.day.specs.declared.forms.Refused.{Refused}
use Rattle.day.specs.declared.forms.Debt.{Debt}

-- the day that a form stands for, given what its source means
module _ {S : Type 0} {g : Ghosts S} (rows : S → List Row) (screen : S → Screen) where
  abbrev pub trading_day : Trading S g → Day
  trading_day t = market_day rows screen t.market

  abbrev pub closed_day : Closed S g → Day
  closed_day c = shut (market_day rows screen c.market)

  -- the day after a close: closed, or handed back
  abbrev pub day_closing : Result (Closed S g) (Refused S g) → Day
  day_closing (Ok c) = closed_day c
  day_closing (Err f) = trading_day f.day

-- a number that is given
abbrev pub told_number : Result ℕ Refusal → Result Reply Refusal
told_number (Ok n) = a_number n
told_number (Err e) = Err e

-- nothing to say but that it was carried out
abbrev pub told_done : Result Unit Refusal → Result Reply Refusal
told_done (Ok _) = a_number 0
told_done (Err e) = Err e

-- how many trades were made, and the debt for them
abbrev pub told_deal : Result (ℕ × Debt) Refusal → Result Reply Refusal
told_deal (Ok p) = Ok (record { number = p.0; debt = Some p.1.report; page = [] })
told_deal (Err e) = Err e

abbrev pub told_filing : Result Unit (Refusal × Debt) → Result Reply Refusal
told_filing (Ok _) = a_number 0
told_filing (Err p) = Err p.0

abbrev pub told_closing : {S : Type 0} {g : Ghosts S} → Result (Closed S g) (Refused S g) → Result Reply Refusal
told_closing (Ok _) = a_number 0
told_closing (Err f) = Err f.refusal

-- a filing that is refused gives the same debt back, and a close the same day
abbrev pub DebtBack : Debt → Result Unit (Refusal × Debt) → Type 0
DebtBack debt (Ok _) = Unit {0}
DebtBack debt (Err p) = p.1 ≡ debt

abbrev pub DayBack : {S : Type 0} {g : Ghosts S} → Trading S g → Result (Closed S g) (Refused S g) → Type 0
DayBack t (Ok _) = Unit {0}
DayBack t (Err f) = f.day.market ≡ t.market

-- the call turns the day d into d' and is answered so, as the model has it
pub record Steps (d : Day) (c : Call) (d' : Day) (a : Result Reply Refusal) : Type 0 where
  pub next_day : d' ≡ next d c
  pub answers : a ≡ answer d c

-- a page: its length, and its bytes at the front of the buffer
abbrev pub told_page : List ℕ → Result ℕ Refusal → Result Reply Refusal
told_page after (Ok n) = Ok (record { number = n; debt = None; page = take n after })
told_page after (Err e) = Err e

-- the buffer's bytes past a page stay, and all of them on a refusal
abbrev pub left_alone : List ℕ → List ℕ → Result ℕ Refusal → List ℕ
left_alone before after (Ok n) = take n after ++ drop n before
left_alone before after (Err e) = before

-- the question leaves the day, is answered as the model has it, and writes the page and nothing else
pub record Shows (d : Day) (c : Call) (before after : List ℕ) (r : Result ℕ Refusal) : Type 0 where
  pub same_day : d ≡ next d c
  pub answers : told_page after r ≡ answer d c
  pub buffer : after ≡ left_alone before after r
  pub within : IfOk r (λ n. n ≤ length after)
