use Rattle.std.proofs.Common.{◌≡◌, ◌++◌, take, vec_items}
use Rattle.transcript.specs.Said.{page_text}
use Rattle.transcript.proofs.lines.add_bytes.Given as goal

abbrev pub invariant-loop-byte : goal.invariant-loop-byte
invariant-loop-byte l = vec_items l.text ≡ vec_items l.initial.text ++ page_text (take l.byte-index l.page)
