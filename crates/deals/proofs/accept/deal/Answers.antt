use Rattle.std.proofs.Common.{◌∙◌, ap, drop, length, take}
use Rattle.std.proofs.lemmas.Result.{err_from_is_err_and}
use Rattle.tables.specs.Tabled.{day_of}
use Rattle.venue.specs.Trading.{Filled, fills}
use Rattle.tables.specs.Tabled.{bare_day}
use Rattle.tables.specs.Used.{used}
use Rattle.deals.proofs.Settling.{settled_late, reported}
use Rattle.deals.proofs.accept.deal.Goals as goal

pub returns-in_err-made-clause-verdict : goal.returns-in_err-made-clause-verdict
returns-in_err-made-clause-verdict c =
    let told = rw (c.as_slice.ensures.value, c.as_slice-2.ensures.value, c.as_slice-3.ensures.value) at c.in_err-made.ensures in
    let p = err_from_is_err_and c.from_residual.result c.from_residual.ensures.1 in
    rw (p.1, p.2) told.verdict

pub returns-clause-settled : goal.returns-clause-settled
returns-clause-settled c =
    let t = c.args.t.now in
    let a = c.args.call.now in
    let f = fills (bare_day t) a.request (used c.args.line.now) in
    let told = rw (c.as_slice.ensures.value, c.as_slice-2.ensures.value, c.as_slice-3.ensures.value) at c.in_ok-made.ensures in
    let left = told.left in
    let done = rw c.as_slice-4.ensures.value at c.settle.ensures in
    (reported t f _ done.report (ap (λ (g : Filled). length g.trades) left.0), λ rows screen. done.day rows screen ∙ settled_late (day_of t rows screen) a f _ _ (take (length (used t.quotes)) (drop 128 c.fill.new.quantities)) left.0 left.1)
