-- The requests of the tables stand on symbols after a call as before. Assumes nothing.
use Rattle.std.proofs.Common.{◌≡◌, List, Ok, sym, subst}
use Rattle.prices.specs.declared.rows.Row.{Row}
use Rattle.prices.specs.Rows.{Screen}
use Rattle.venue.specs.Days.{Day}
use Rattle.venue.specs.Calls.{Call}
use Rattle.venue.specs.Model.{judge, apply, next}
use Rattle.venue.specs.Places.{Placed}
use Rattle.venue.proofs.Placing.{placed_after, placed_next}
use Rattle.tables.specs.declared.inner.Tables.{Tables}
use Rattle.tables.specs.Tabled.{bare_day, day_of}

pub seated_after : (t : Tables) (c : Call) (d' : Day) → Placed (bare_day t) → Ok tt ≡ judge (bare_day t) c → d' ≡ apply (bare_day t) c → Placed d'
seated_after t c d' p v e = subst Placed (sym e) (placed_after (bare_day t) c p (sym v))

pub seated_next : (t : Tables) (rows : List Row) (screen : Screen) (c : Call) (d' : Day) → Placed (bare_day t) → d' ≡ next (day_of t rows screen) c → Placed d'
seated_next t rows screen c d' p e = subst Placed (sym e) (placed_next (day_of t rows screen) c p)
