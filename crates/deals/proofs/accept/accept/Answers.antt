use Rattle.std.proofs.Common.{take, drop, Err, sym, refl}
use Rattle.std.proofs.lemmas.Result.{err_from_is_err_and}
use Rattle.venue.specs.Calls.{Call.accept, causes}
use Rattle.tables.specs.Priced.{market_day}
use Rattle.records.proofs.Unless.{unless_first}
use Rattle.deals.proofs.Judging.{deals, dealt}
use Rattle.deals.proofs.accept.accept.Goals as goal

pub returns-in_err-judge-clause-deals : goal.returns-in_err-judge-clause-deals
returns-in_err-judge-clause-deals g c =
    let m = c.args.market.now in
    let a = c.args.call.now in
    let rows = g.S.Source.rows m.source in
    let screen = g.S.Source.screen m.source in
    let cs = causes (market_day g.S.Source.rows g.S.Source.screen m) (accept a) in
    let p = err_from_is_err_and c.from_residual.result c.from_residual.ensures.1 in
    let v = sym (unless_first (take 7 cs) (drop 7 cs) _ c.in_err-judge.ensures) in
    rw (p.1, p.2) (deals m.tables rows screen a m.tables (Err _) v refl)

pub returns-clause-deals : goal.returns-clause-deals
returns-clause-deals g c =
    let m = c.args.market.now in
    let dealt_with = rw c.line_up-line.ensures at c.deal.ensures in
    dealt m.tables (g.S.Source.rows m.source) (g.S.Source.screen m.source) c.args.call.now _ c.deal.result c.in_ok-judge.ensures dealt_with.verdict dealt_with.settled
