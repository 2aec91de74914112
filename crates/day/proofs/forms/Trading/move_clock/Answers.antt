use Rattle.venue.specs.Calls.{Call.move_clock}
use Rattle.day.proofs.Seating.{seated_after}
use Rattle.day.proofs.forms.Trading.move_clock.Goals as goal

pub invariant_of-self : goal.invariant_of-self
invariant_of-self g c =
    let s = c.args.self.now in
    record { placed = seated_after s.market.tables (move_clock c.args.time) _ s.placed c.in_ok-judge_time.ensures c.move_clock.ensures }
