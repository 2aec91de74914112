use Rattle.std.proofs.Common.{◌≡◌, sym, ◌∙◌, arith}
use Rattle.std.proofs.lemmas.Grind.{common_steps}
use Rattle.std.proofs.iter.Rest.{running}
use Rattle.std.specs.List.{sum_by}
use Rattle.records.specs.Bytes.{width}
use Rattle.records.specs.Layout.{shape}
use Rattle.records.proofs.Standings.{size_is, size_most}
use Rattle.records.proofs.heads.Standing.size.Goals as goal

pub returns : goal.returns
returns c =
    let all : c.sum.result ≡ sum_by (λ f. width (shape f)) c.args.self = grind (arith, common_steps, running) in
    let is = all ∙ sym (size_is c.args.self) in
    let most = size_most c.args.self in
    record { value = is; bound = omega arith }
