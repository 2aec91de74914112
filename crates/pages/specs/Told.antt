-- What a page tells.
-- Assumes nothing.
use Rattle.std.specs.Prelude.{ℕ, List}
use Rattle.prices.specs.declared.rows.Row.{Row}
use Rattle.prices.specs.Rows.{Screen}
use Rattle.tables.specs.Priced.{market_day}
use Rattle.pages.specs.declared.rows.Page.{Page}
use Rattle.pages.specs.Rows.{lines_of, rows_of}

-- the bytes of a page, given what its source means
module _ {S : Type 0} (rows : S → List Row) (screen : S → Screen) where
  abbrev pub told : Page S → List ℕ
  told p = lines_of (market_day rows screen p.market.now) p.user (rows_of (market_day rows screen p.market.now) p.user p.content)
