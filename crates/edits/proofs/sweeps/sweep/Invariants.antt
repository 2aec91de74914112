use Rattle.std.proofs.Common.{◌≡◌, take, drop}
use Rattle.std.specs.List.{AllZip}
use Rattle.edits.specs.Sweeps.{Leaves}
use Rattle.edits.proofs.sweeps.sweep.Given as goal

-- the rows before the index are changed, the others as they were
abbrev pub invariant-loop-row : goal.invariant-loop-row
invariant-loop-row g l = record {
  changed : AllZip (Leaves g.F.Fn l.change) (take l.row-index l.initial.row-items) (take l.row-index l.row-items);
  others : drop l.row-index l.row-items ≡ drop l.row-index l.initial.row-items;
}
