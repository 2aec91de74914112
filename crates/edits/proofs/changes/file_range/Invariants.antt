use Rattle.std.proofs.Common.{◌≡◌, ◌+◌, ◌-◌}
use Rattle.venue.specs.Model.{filed}
use Rattle.edits.proofs.changes.file_range.Given as goal

abbrev pub invariant-loop-n : goal.invariant-loop-n
invariant-loop-n l = filed l.trades l.n (l.last + 1 - l.n) ≡ filed l.initial.trades l.first (l.last + 1 - l.first)
