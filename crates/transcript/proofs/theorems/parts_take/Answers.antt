use Rattle.transcript.proofs.Parts.{parts}
use Rattle.transcript.proofs.theorems.parts_take.Goals as goal

pub returns : goal.returns
returns c = parts
