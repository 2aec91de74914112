use Rattle.std.proofs.Common.{refl}
use Rattle.venue.proofs.Dealing.{trades_are_good}
use Rattle.venue.proofs.Resting.{ended_rests}
use Rattle.venue.proofs.Staying.{entries_stay, offers_stay}
use Rattle.venue.proofs.Summing.{quantities_add_up}
use Rattle.venue.proofs.theorems.quantities_add_up.Goals as goal

pub returns : goal.returns
returns c =
    record {
      sums = quantities_add_up;
      entries = entries_stay;
      offers = offers_stay;
      rests = ended_rests;
      trades = trades_are_good;
      sample = record { open_now = refl; traded_now = refl; remaining_now = refl; trades_now = refl };
    }
