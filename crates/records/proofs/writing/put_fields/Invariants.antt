use Rattle.std.proofs.Common.{◌≡◌, ◌+◌, ◌≤◌, length}
use Rattle.std.specs.List.{flat_map}
use Rattle.records.specs.Bytes.{field_bytes, standing}
use Rattle.records.specs.Layout.{layout}
use Rattle.records.specs.Writing.{over}
use Rattle.records.proofs.writing.put_fields.Given as goal

abbrev pub invariant-loop-field : goal.invariant-loop-field
invariant-loop-field l =
    record {
      room : l.at + length (flat_map (field_bytes l.fields) l.field-iterator) ≤ length l.out;
      written : over l.initial.out l.start (flat_map (field_bytes l.fields) (standing (layout l.fn.head.kind) l.fn.head.map)) ≡ over l.out l.at (flat_map (field_bytes l.fields) l.field-iterator);
    }
