use Rattle.std.proofs.Common.{◌≡◌, suc, ◌+◌, ◌-◌, length, ◌∙◌, append-nil, arith}
use Rattle.transcript.specs.States.{state_of}
use Rattle.transcript.proofs.Onward.{text_done, turned}
use Rattle.transcript.proofs.texts.add_lines.Goals as goal

pub returns-then-at-bytes : goal.returns-then-at-bytes
returns-then-at-bytes g c =
    let l = c.loop-passed in
    let over = text_done (length l.buffer) (length c.args.bytes.now - l.passed) c.args.bytes.now c.in-Some.at (l.passed + 1) (state_of g.S.Source.rows g.S.Source.screen l.run) c.if-at-bytes.true in
    rw (c.in-Some.is, over, append-nil) at l.invariant

pub loop-passed-preserved : goal.loop-passed-preserved
loop-passed-preserved g c =
    let s = c.args.bytes.now in
    let l = c.loop-passed in
    let one : length s - l.passed ≡ suc (length s - (l.passed + 1)) = omega arith in
    let added = rw c.letter_shown.ensures at c.in_ok-add_line.ensures in
    let before = rw (c.in-Some.is, one) at l.invariant in
    rw c.take_turn.auto.buffer
    (turned (length l.buffer) s c.in-Some.at (l.passed + 1) (length s - (l.passed + 1)) _ _ _ _ _ c.in_ok-then.place c.if-at-bytes.false c.in_ok-then.ensures.turned added ∙ before)
