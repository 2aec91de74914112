use Rattle.std.proofs.Common.{◌≡◌, length}
use Rattle.records.specs.Bytes.{standing}
use Rattle.records.proofs.heads.StandingIterator.next.Given as goal

abbrev pub invariant-loop-self : goal.invariant-loop-self
invariant-loop-self l = standing l.self-inside.slots.now l.self-inside.left ≡ standing l.initial.self-inside.slots.now l.initial.self-inside.left

abbrev pub decreases-loop-self : goal.decreases-loop-self
decreases-loop-self l = length l.self-inside.slots.now
