use Rattle.std.proofs.Common.{◌≡◌, Some, sym, ap, ◌∙◌, rules, arith}
use Rattle.records.specs.Bytes.{size, standing}
use Rattle.records.specs.Layout.{kind_of, layout}
use Rattle.records.proofs.Records.{encoded_long, same_fields}
use Rattle.records.proofs.writing.encoded_len.Goals as goal

pub returns-in-Ok : goal.returns-in-Ok
returns-in-Ok c =
    let r = c.args.fields.now in
    let head = c.in-Ok.head in
    let known : kind_of c.args.kind ≡ Some head.kind = ap kind_of (sym c.in-Ok.ensures.letter) ∙ head.known in
    let same = same_fields c.args.kind r head.kind known in
    let is = c.size.ensures.value ∙ ap size (c.fields.ensures.value ∙ ap (standing (layout head.kind)) c.in-Ok.ensures.map ∙ same) in
    let long = encoded_long c.args.kind r (search rules) (search rules) in
    record { value = omega arith; bytes = omega arith; bound = omega arith }
