use Rattle.std.proofs.Common.{◌≡◌, ◌+◌, ◌++◌, length, sym, ap, ◌∙◌, arith, length-append}
use Rattle.std.specs.List.{flat_map}
use Rattle.records.specs.Bytes.{field_bytes}
use Rattle.records.specs.Writing.{over}
use Rattle.records.proofs.Over.{over_append}
use Rattle.records.proofs.writing.put_fields.Goals as goal

pub loop-field-preserved : goal.loop-field-preserved
loop-field-preserved c =
    let g = field_bytes c.args.fields.now in
    let l = c.loop-field in
    let here = g c.in-Some.field in
    let rest = flat_map g c.next.new.self in
    let all : flat_map g l.field-iterator ≡ here ++ rest = ap (flat_map g) c.in-Some.ensures.steps in
    let long = ap length all ∙ length-append here rest in
    record {
      room = omega arith;
      written = l.invariant.written ∙ ap (over l.out l.at) all ∙ over_append l.out l.at here rest
          ∙ ap (λ o. over o (l.at + length here) rest) (sym c.put_field-at.ensures.after) ∙ ap (λ p. over c.put_field-at.new.out p rest) (sym c.put_field-at.ensures.next);
    }
