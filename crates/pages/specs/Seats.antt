-- Tables whose requests stand on symbols.
-- Assumes nothing.
use Rattle.std.specs.Prelude.{◌<◌, length}
use Rattle.venue.specs.Places.{Placed}
use Rattle.tables.specs.declared.inner.Tables.{Tables}
use Rattle.tables.specs.Tabled.{bare_day}
use Rattle.tables.specs.Used.{used}

-- there are symbols, and every request stands on one
abbrev pub Seated : Tables → Type 0
Seated t = Placed (bare_day t) × (0 < length (used t.symbols))
