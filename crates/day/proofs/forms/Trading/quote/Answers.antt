use Rattle.std.proofs.Common.{◌+◌, refl, ap}
use Rattle.venue.specs.Model.{a_number}
use Rattle.day.proofs.Rooms.{room_for_quote}
use Rattle.day.proofs.Stepping.{over_source, when_granted}
use Rattle.day.proofs.forms.Trading.quote.Goals as goal

pub add_quote-requires : goal.add_quote-requires
add_quote-requires g c = room_for_quote c.args.self.now.market.tables c.args.offering c.in_ok-judge_offering.ensures

pub returns : goal.returns
returns g c =
    let m = c.args.self.now.market in
    when_granted _ _ _ _ _ c.in_ok-judge_offering.ensures refl
    (ap (over_source (g.S.Source.rows m.source) (g.S.Source.screen m.source)) c.add_quote.ensures)
    (ap (λ n. a_number (n + 1)) c.len-number.ensures.value)
