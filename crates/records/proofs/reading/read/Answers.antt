use Rattle.records.proofs.Back.{read_write}
use Rattle.records.proofs.reading.read.Goals as goal

pub returns-in_err-kind-clause-back : goal.returns-in_err-kind-clause-back
returns-in_err-kind-clause-back c = read_write

pub returns-clause-back : goal.returns-clause-back
returns-clause-back c = read_write
