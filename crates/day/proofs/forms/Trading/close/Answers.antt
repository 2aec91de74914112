use Rattle.std.proofs.Common.{sym, ◌∙◌}
use Rattle.venue.specs.Calls.{Call.close}
use Rattle.day.proofs.Seating.{seated_after}
use Rattle.day.proofs.forms.Trading.close.Goals as goal

pub invariant_of-result : goal.invariant_of-result
invariant_of-result g c =
    let s = c.args.self in
    record { placed = seated_after s.market.tables close _ s.placed (sym c.in_default.is ∙ c.judge_close.ensures) c.end_all.ensures }
