use Rattle.std.proofs.Common.{get_or, refl}
use Rattle.edits.specs.Sweeps.{Leaves}
use Rattle.edits.proofs.Swept.{one_more, others_stay}
use Rattle.edits.proofs.sweeps.sweep.Goals as goal

pub loop-row-preserved : goal.loop-row-preserved
loop-row-preserved g c =
    let C = Leaves g.F.Fn c.args.change in
    let before = c.args.rows.now in
    let rows = c.loop-row.row-items in
    let i = c.loop-row.row-index in
    let y = c.change.new.arg2 in
    let others = c.loop-row.invariant.others in
    let left : C (get_or rows i c.row-item.result) y = record { lent = _; lends = refl; left = _; met = c.change.ensures; leaves = refl } in
    record {
      changed = one_more C before rows i _ y c.loop-row-test.true others c.loop-row.invariant.changed left;
      others = others_stay before rows i y others;
    }
