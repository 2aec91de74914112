use Rattle.venue.specs.Calls.{Call.accept}
use Rattle.day.proofs.Seating.{seated_next}
use Rattle.day.proofs.forms.Trading.accept.Goals as goal

pub invariant_of-self : goal.invariant_of-self
invariant_of-self g c =
    let s = c.args.self.now in
    record { placed = seated_next s.market.tables (g.S.Source.rows s.market.source) (g.S.Source.screen s.market.source) (accept c.args.acceptance) _ s.placed c.accept.ensures.deals.next_day }
