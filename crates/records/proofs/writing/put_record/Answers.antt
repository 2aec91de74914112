use Rattle.std.proofs.Common.{◌+◌, ◌/◌, ◌%◌, [], ◌∷◌, length, ap, ◌∙◌}
use Rattle.std.specs.List.{flat_map}
use Rattle.records.specs.Bytes.{field_bytes, standing}
use Rattle.records.specs.Layout.{layout}
use Rattle.records.specs.Writing.{over}
use Rattle.records.proofs.Records.{all_written}
use Rattle.records.proofs.writing.put_record.Goals as goal

pub returns : goal.returns
returns c =
    let r = c.args.fields.now in
    let head = c.args.head in
    let out = c.args.out.now in
    let at = c.args.at in
    let front = c.put_bytes-next in
    let first = front.ensures.after ∙ ap (over out at) c.bytes.ensures ∙ ap (λ m. over out at (head.letter ∷ m % 256 ∷ m / 256 % 256 ∷ [])) c.requires.map in
    let next = front.ensures.value ∙ ap (λ bs. at + length bs) c.bytes.ensures in
    let fields = c.put_fields.ensures ∙ ap (λ m. over front.new.out front.result (flat_map (field_bytes r) (standing (layout head.kind) m))) c.requires.map in
    all_written head.letter r head.kind head.known out front.new.out c.put_fields.new.out at front.result first next fields
