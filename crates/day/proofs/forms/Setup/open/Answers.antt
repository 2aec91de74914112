use Rattle.std.proofs.Common.{refl, ap}
use Rattle.venue.proofs.Dealing.{trades_are_good}
use Rattle.venue.proofs.Secrecy.{hidden}
use Rattle.venue.proofs.Owing.{debts}
use Rattle.venue.proofs.Resting.{ended_rests}
use Rattle.venue.proofs.Staying.{entries_stay, offers_stay}
use Rattle.venue.proofs.Strangers.{strangers_told_nothing}
use Rattle.venue.proofs.Summing.{quantities_add_up}
use Rattle.day.proofs.Stepping.{over_source}
use Rattle.day.proofs.forms.Setup.open.Goals as goal

pub returns : goal.returns
returns g c =
    let s = c.args.self.market.source in
    record {
      opened = ap (over_source (g.S.Source.rows s) (g.S.Source.screen s)) c.open_tables.ensures;
      source = refl;
      hidden = hidden;
      strangers = strangers_told_nothing;
      sums = quantities_add_up;
      entries = entries_stay;
      offers = offers_stay;
      rests = ended_rests;
      trades = trades_are_good;
      debts = debts;
    }
