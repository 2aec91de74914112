-- What a table holds. Assumes nothing.
use Rattle.std.specs.Prelude.{ℕ, List, drop, take}
use Rattle.tables.specs.declared.table.Table.{Table}

-- the rows that are in use, in order
unfoldable pub used : {R : Type 0} {CAP : ℕ} → Table R CAP → List R
used t = take t.len t.rows

-- and what lies in its array behind them
abbrev pub spare : {R : Type 0} {CAP : ℕ} → Table R CAP → List R
spare t = drop t.len t.rows
