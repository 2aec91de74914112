use Rattle.transcript.proofs.Filing.{files}
use Rattle.transcript.proofs.theorems.debts_are_filed.Goals as goal

pub returns : goal.returns
returns c = files
