use Rattle.venue.proofs.Filling.{fills_by_turns, fills_add_up}
use Rattle.venue.proofs.theorems.fills_add_up.Goals as goal

pub returns : goal.returns
returns c = record { turns = fills_by_turns; totals = fills_add_up }
