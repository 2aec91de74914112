use Rattle.std.proofs.Common.{◌≡◌, ◌++◌, vec_items}
use Rattle.std.specs.List.{flat_map}
use Rattle.listing.specs.Lines.{field_text}
use Rattle.listing.proofs.lines.add_fields.Given as goal

abbrev pub invariant-loop-field : goal.invariant-loop-field
invariant-loop-field l =
    vec_items l.initial.text ++ flat_map (field_text l.fields) l.initial.field-iterator ≡ vec_items l.text ++ flat_map (field_text l.fields) l.field-iterator
