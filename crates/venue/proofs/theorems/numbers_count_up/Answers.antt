use Rattle.venue.proofs.Counting.{numbers_count_up}
use Rattle.venue.proofs.Rooming.{trades_have_room}
use Rattle.venue.proofs.theorems.numbers_count_up.Goals as goal

pub returns : goal.returns
returns c = record { gapless = numbers_count_up; room = trades_have_room }
