use Rattle.std.proofs.Common.{refl}
use Rattle.day.specs.Told.{trading_day}
use Rattle.transcript.proofs.Filing.{never_refused}
use Rattle.transcript.proofs.turns.accept.Goals as goal

pub unreachable-requires : goal.unreachable-requires
unreachable-requires g c =
    let rows = g.S.Source.rows in
    let screen = g.S.Source.screen in
    let deal = c.in_ok-trades.ensures in
    let filing = c.in-Err.ensures.step in
    never_refused (trading_day rows screen c.args.day.now) (trading_day rows screen c.accept.new.self) c.args.acceptance _ _ _ deal.answers refl deal.next_day filing.answers
