use Rattle.std.proofs.Common.{refl}
use Rattle.prices.proofs.Mids.{amounts}
use Rattle.venue.proofs.theorems.amounts_stand.Goals as goal

pub returns : goal.returns
returns c = record { prices = amounts; three = (refl, refl); two = (refl, refl); none = refl }
