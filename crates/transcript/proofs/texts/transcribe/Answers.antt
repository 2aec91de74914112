use Rattle.std.proofs.Common.{◌≡◌, replicate}
use Rattle.prices.specs.declared.rows.Row.TheVariants.{Never}
use Rattle.transcript.proofs.Onward.{enough}
use Rattle.transcript.proofs.texts.transcribe.Goals as goal

pub returns : goal.returns
returns c =
    let source = c.stack.result in
    let rows_are : source.below.below.rows ≡ replicate 64 Never = c.stack.ensures.sheet in
    let limit_is : source.below.limit ≡ 60000 = c.stack.ensures.limit in
    record { text = rw (limit_is, rows_are) at c.transcribe_over.ensures; enough = enough }
