use Rattle.venue.proofs.Premises.{sample}
use Rattle.venue.proofs.theorems.two_days_differ.Goals as goal

pub returns : goal.returns
returns c = sample
