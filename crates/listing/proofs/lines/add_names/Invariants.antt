use Rattle.std.proofs.Common.{◌≡◌, ◌/◌, ◌^◌, ◌++◌, map, drop, vec_items}
use Rattle.listing.specs.Lines.{names_from}
use Rattle.listing.proofs.lines.add_names.Given as goal

abbrev pub invariant-loop-i : goal.invariant-loop-i
invariant-loop-i l =
    vec_items l.initial.text ++ names_from (map (λ s. s.now) l.names) l.bits ≡ vec_items l.text ++ names_from (drop l.i (map (λ s. s.now) l.names)) (l.bits / 2 ^ l.i)
