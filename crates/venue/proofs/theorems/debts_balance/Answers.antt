use Rattle.venue.proofs.Owing.{debts, sample}
use Rattle.venue.proofs.theorems.debts_balance.Goals as goal

pub returns : goal.returns
returns c = record { law = debts; sample = sample }
