use Rattle.std.proofs.Common.{◌≡◌, ◌++◌, take}
use Rattle.tables.specs.Used.{used}
use Rattle.tables.proofs.table.Table.extend_from_slice.Given as goal

abbrev pub invariant-loop-row : goal.invariant-loop-row
invariant-loop-row g l = used l.self ≡ used l.initial.self ++ take l.row-index l.rows
