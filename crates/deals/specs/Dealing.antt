-- What an acceptance answers, and what it leaves of the tables.
-- Assumes nothing.
use Rattle.std.specs.Prelude.{◌≡◌, ◌+◌, ◌-◌, List, [], length, Some, Ok, Err, Result}
use Rattle.records.specs.declared.causes.Cause.{Cause}
use Rattle.records.specs.declared.causes.Refusal.{Refusal}
use Rattle.records.specs.Causes.{refusal}
use Rattle.prices.specs.declared.rows.Row.{Row}
use Rattle.prices.specs.Rows.{Screen}
use Rattle.venue.specs.declared.rows.Acceptance.{Acceptance}
use Rattle.venue.specs.declared.rows.Report.{Report}
use Rattle.venue.specs.Days.{Day}
use Rattle.venue.specs.Trading.{Filled}
use Rattle.venue.specs.Calls.{Call.accept}
use Rattle.venue.specs.Model.{Reply, settled, judge, answer, next}
use Rattle.tables.specs.declared.inner.Tables.{Tables}
use Rattle.tables.specs.Tabled.{bare_day, day_of}
use Rattle.deals.specs.Filling.{verdict}

-- the trades to be reported
abbrev pub report_of : Day → Filled → Report
report_of d f =
    record { day = d.number; first = length d.trades + 1; last = length d.trades + length f.trades }

-- granted, the fills are settled, over whatever the source is; refused, the tables are what they were
abbrev pub Settles : Acceptance → Filled → Tables → Tables → Result Report Cause → Type 0
Settles a f t t' (Ok p) =
    (p ≡ report_of (bare_day t) f)
    × ((rows : List Row) (screen : Screen) → day_of t' rows screen ≡ settled (day_of t rows screen) a f)
Settles a f t t' (Err e) = t' ≡ t

-- the answer of the call: the number of trades and the debt for them, or the cause
abbrev pub told : Result Report Cause → Result Reply Refusal
told (Ok p) = Ok (record { number = p.last + 1 - p.first; debt = Some p; page = [] })
told (Err e) = Err (refusal e 0)

abbrev pub Kept : Tables → Tables → Result Report Cause → Type 0
Kept t t' (Ok p) = Unit {0}
Kept t t' (Err e) = t' ≡ t

-- the acceptance a turned tables t of the day d into t', and gave r
pub record Deals (d : Day) (a : Acceptance) (t t' : Tables) (r : Result Report Cause) : Type 0 where
  pub judged : verdict r ≡ judge d (accept a)
  pub answers : told r ≡ answer d (accept a)
  pub next_day : day_of t' d.rows d.screen ≡ next d (accept a)
  pub kept : Kept t t' r
