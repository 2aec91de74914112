use Rattle.std.proofs.Common.{◌≡◌, suc, ◌+◌, ◌-◌, sym, ap, ◌∙◌, arith}
use Rattle.venue.specs.Model.{filed}
use Rattle.edits.proofs.changes.file_range.Goals as goal

pub loop-n-preserved : goal.loop-n-preserved
loop-n-preserved c =
    let n = c.loop-n.n in
    let more : c.args.last + 1 - n ≡ suc (c.args.last + 1 - (n + 1)) = omega arith in
    ap (λ ts. filed ts (n + 1) (c.args.last + 1 - (n + 1))) c.file_trade_numbered.ensures
    ∙ sym (ap (filed c.loop-n.trades n) more)
    ∙ c.loop-n.invariant

pub returns : goal.returns
returns c =
    let none : c.args.last + 1 - c.loop-n.n ≡ 0 = omega arith in
    sym (ap (filed c.loop-n.trades c.loop-n.n) none) ∙ c.loop-n.invariant
