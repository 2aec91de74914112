use Rattle.venue.proofs.Secrecy.{hidden}
use Rattle.venue.proofs.Premises.{sample}
use Rattle.venue.proofs.Strangers.{strangers_told_nothing}
use Rattle.venue.proofs.theorems.held_back_stays_hidden.Goals as goal

pub returns : goal.returns
returns c = record { law = hidden; strangers = strangers_told_nothing; sample = sample }
