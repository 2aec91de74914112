use Rattle.std.proofs.Common.{◌≡◌, ◌+◌, ◌-◌}
use Rattle.tables.specs.Tabled.{bare_day}
use Rattle.venue.specs.Calls.{not_owed}
use Rattle.judges.proofs.debts.are_not_owed.Given as goal

abbrev pub invariant-loop-n : goal.invariant-loop-n
invariant-loop-n l = not_owed (bare_day l.t).trades l.first (l.last + 1 - l.first) ≡ not_owed (bare_day l.t).trades l.n (l.last + 1 - l.n)
