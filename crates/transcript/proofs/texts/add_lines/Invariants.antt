use Rattle.std.proofs.Common.{◌≡◌, ◌+◌, ◌-◌, [], ◌++◌, length, vec_items}
use Rattle.listing.specs.Listing.{then}
use Rattle.transcript.specs.States.{state_of}
use Rattle.transcript.specs.Texts.{text}
use Rattle.transcript.proofs.texts.add_lines.Given as goal

abbrev pub invariant-loop-passed : goal.invariant-loop-passed
invariant-loop-passed g l =
    let state = state_of g.S.Source.rows g.S.Source.screen in
    vec_items l.text ++ then l.next (λ p. text (length l.buffer) (length l.bytes - l.passed) l.bytes p (l.passed + 1) (state l.run)) [] ≡ vec_items l.initial.text ++ text (length l.initial.buffer) (length l.bytes) l.bytes 0 1 (state l.initial.run)
