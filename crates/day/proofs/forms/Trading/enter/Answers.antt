use Rattle.std.proofs.Common.{◌+◌, refl, ap}
use Rattle.venue.specs.Model.{a_number}
use Rattle.day.proofs.Rooms.{room_for_request}
use Rattle.day.proofs.Stepping.{over_source, when_granted}
use Rattle.venue.specs.Calls.{Call.enter}
use Rattle.day.proofs.Seating.{seated_after}
use Rattle.day.proofs.forms.Trading.enter.Goals as goal

pub add_request-requires : goal.add_request-requires
add_request-requires g c = room_for_request c.args.self.now.market.tables c.args.entry c.in_ok-judge_entry.ensures

pub returns : goal.returns
returns g c =
    let m = c.args.self.now.market in
    when_granted _ _ _ _ _ c.in_ok-judge_entry.ensures refl
    (ap (over_source (g.S.Source.rows m.source) (g.S.Source.screen m.source)) c.add_request.ensures)
    (ap (λ n. a_number (n + 1)) c.len-number.ensures.value)

pub invariant_of-self : goal.invariant_of-self
invariant_of-self g c =
    let s = c.args.self.now in
    record { placed = seated_after s.market.tables (enter c.args.entry) _ s.placed c.in_ok-judge_entry.ensures c.add_request.ensures }
