use Rattle.std.proofs.Common.{◌≡◌, ◌++◌, length, take, drop, refl, ap, ◌∙◌, sym, arith}
use Rattle.std.proofs.Math.Seq.{take-append_seam}
use Rattle.std.proofs.lemmas.List.{length-take-le}
use Rattle.tables.proofs.table.edit_front.Goals as goal

pub returns-clause-front : goal.returns-clause-front
returns-clause-front g c =
    let rows = c.args.rows.now in
    let written = c.change.new.arg2 in
    let many : length written ≡ c.args.len = omega (arith, length-take-le c.args.len rows c.requires.within) in
    let front = ap (λ n. take n (written ++ drop c.args.len rows)) (sym many) ∙ take-append_seam written (drop c.args.len rows) in
    record { shown = _; shows = refl; left = _; met = c.change.ensures; leaves = sym front }
