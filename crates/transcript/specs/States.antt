-- Where a run stands, given the form that the day has.
-- Assumes nothing.
use Rattle.std.specs.Prelude.{List}
use Rattle.prices.specs.declared.rows.Row.{Row}
use Rattle.prices.specs.Rows.{Screen}
use Rattle.prices.specs.declared.sources.Source.{Ghosts}
use Rattle.tables.specs.Tabled.{setting_of}
use Rattle.day.specs.Told.{closed_day, trading_day}
use Rattle.day.specs.declared.forms.Setup.{Setup}
use Rattle.transcript.specs.declared.runs.Run.{Run}
use Rattle.transcript.specs.declared.runs.Run.TheVariants as run
use Rattle.transcript.specs.Runs.{State, State.setting, State.running}

abbrev pub setup_state : {S : Type 0} → (S → List Row) → (S → Screen) → Setup S → State
setup_state rows screen s = setting (setting_of s.market.tables) (rows s.market.source) (screen s.market.source)

abbrev pub state_of : {S : Type 0} {g : Ghosts S} → (S → List Row) → (S → Screen) → Run S g → State
state_of rows screen (run.Setting s) = setup_state rows screen s.value
state_of rows screen (run.Trading d) = running (trading_day rows screen d.value)
state_of rows screen (run.Closed d) = running (closed_day rows screen d.value)
