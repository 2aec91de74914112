use Rattle.venue.proofs.Told.{refused_leaves, told_causes, when_granted}
use Rattle.venue.proofs.theorems.refusals_are_told.Goals as goal

pub returns : goal.returns
returns c = record { leaves = refused_leaves; told = told_causes; granted = when_granted }
