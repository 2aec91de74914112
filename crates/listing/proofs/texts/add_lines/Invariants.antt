use Rattle.std.proofs.Common.{◌≡◌, ◌+◌, ◌-◌, ◌≤◌, true, ◌++◌, length, vec_items}
use Rattle.listing.specs.Listing.{text, listing}
use Rattle.listing.proofs.texts.add_lines.Given as goal

abbrev pub invariant-loop-at : goal.invariant-loop-at
invariant-loop-at l =
    record {
      said : vec_items l.initial.text ++ listing l.bytes ≡ vec_items l.text ++ text (length l.bytes) l.bytes l.at l.tally.read l.tally.refused;
      counted : l.tally.read + l.tally.refused ≤ l.at;
      same : l.tally.same ≡ true;
    }

abbrev pub decreases-loop-at : goal.decreases-loop-at
decreases-loop-at l = length l.bytes - l.at
