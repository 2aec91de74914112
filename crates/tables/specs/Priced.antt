-- The day of a market: its tables, over what its source means.
-- Assumes nothing.
use Rattle.std.specs.Prelude.{List}
use Rattle.prices.specs.declared.rows.Row.{Row}
use Rattle.prices.specs.Rows.{Screen}
use Rattle.venue.specs.Days.{Day}
use Rattle.tables.specs.Tabled.{day_of}
use Rattle.tables.specs.declared.inner.Market.{Market}

module _ {S : Type 0} (rows : S → List Row) (screen : S → Screen) where
  abbrev pub market_day : Market S → Day
  market_day m = day_of m.tables (rows m.source) (screen m.source)
