use Rattle.transcript.proofs.Parts.{goes_on}
use Rattle.transcript.proofs.theorems.runs_end.Goals as goal

pub returns : goal.returns
returns c = goes_on
