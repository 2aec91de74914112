use Rattle.std.proofs.Common.{◌≡◌, ◌≤◌, length}
use Rattle.records.specs.Bytes.{size, standing}
use Rattle.records.specs.Fields.{blank}
use Rattle.records.specs.Layout.{layout}
use Rattle.records.specs.Reading.{fill}
use Rattle.records.proofs.heads.Head.fill.Given as goal

abbrev pub invariant-loop-field : goal.invariant-loop-field
invariant-loop-field l =
    record {
      room : size l.field-iterator ≤ length l.rest;
      filled : fill (standing (layout l.fn.self.kind) l.fn.self.map) l.bytes (blank l.fn.self.map) ≡ fill l.field-iterator l.rest l.fields;
    }
