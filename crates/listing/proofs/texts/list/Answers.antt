use Rattle.listing.proofs.Runs.{enough}
use Rattle.listing.proofs.texts.list.Goals as goal

pub returns-in_err-tally-clause-enough : goal.returns-in_err-tally-clause-enough
returns-in_err-tally-clause-enough c = enough

pub returns-in_err-add_totals-clause-enough : goal.returns-in_err-add_totals-clause-enough
returns-in_err-add_totals-clause-enough c = enough

pub returns-clause-enough : goal.returns-clause-enough
returns-clause-enough c = enough
