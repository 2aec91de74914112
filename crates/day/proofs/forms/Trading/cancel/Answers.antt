use Rattle.venue.specs.Calls.{Call.cancel}
use Rattle.day.proofs.Seating.{seated_after}
use Rattle.day.proofs.forms.Trading.cancel.Goals as goal

pub invariant_of-self : goal.invariant_of-self
invariant_of-self g c =
    let s = c.args.self.now in
    record { placed = seated_after s.market.tables (cancel c.args.user c.args.request) _ s.placed c.in_ok-judge_cancel.ensures c.cancel_request.ensures }
