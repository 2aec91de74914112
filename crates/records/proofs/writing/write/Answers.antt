use Rattle.records.proofs.Back.{write_read}
use Rattle.records.proofs.writing.write.Goals as goal

pub returns-clause-back : goal.returns-clause-back
returns-clause-back c = write_read
