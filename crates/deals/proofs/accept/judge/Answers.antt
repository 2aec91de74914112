use Rattle.std.proofs.Common.{Bool, cond, take, drop, Ok, Err, sym, ap, ◌∙◌}
use Rattle.std.proofs.lemmas.Result.{err_from_is_err_and}
use Rattle.records.specs.declared.causes.Cause.TheVariants.{QuoteNotLive}
use Rattle.venue.specs.Calls.{Call.accept, accept_causes, causes, form_causes}
use Rattle.tables.specs.Priced.{market_day}
use Rattle.records.proofs.Unless.{unless_first, unless_next}
use Rattle.deals.proofs.Judging.{left_to}
use Rattle.deals.proofs.accept.judge.Goals as goal

pub returns-in_err-judge_form : goal.returns-in_err-judge_form
returns-in_err-judge_form g c =
    let a = c.args.call.now in
    let d = market_day g.S.Source.rows g.S.Source.screen c.args.market.now in
    let p = err_from_is_err_and c.from_residual.result c.from_residual.ensures.1 in
    rw
    (p.1, p.2)
    (sym (unless_first (form_causes (accept a)) (take 5 (drop 2 (causes d (accept a)))) _ c.in_err-judge_form.ensures))

pub returns-in_err-judge_caller : goal.returns-in_err-judge_caller
returns-in_err-judge_caller g c =
    let a = c.args.call.now in
    let d = market_day g.S.Source.rows g.S.Source.screen c.args.market.now in
    let form = unless_next (form_causes (accept a)) (take 5 (drop 2 (causes d (accept a)))) c.in_ok-judge_form.ensures in
    let p = err_from_is_err_and c.from_residual-in_err-judge_caller.result c.from_residual-in_err-judge_caller.ensures.1 in
    rw
    (p.1, p.2)
    (sym (form ∙ unless_first (take 3 (accept_causes d a)) (take 1 (drop 3 (accept_causes d a))) _ c.in_err-judge_caller.ensures))

pub returns-then-has_inexecutable : goal.returns-then-has_inexecutable
returns-then-has_inexecutable g c =
    let m = c.args.market.now in
    sym
    (left_to m.tables (g.S.Source.rows m.source) (g.S.Source.screen m.source) c.args.call.now c.in_ok-judge_form.ensures c.in_ok-judge_caller.ensures
    ∙ ap (λ (b : Bool). cond b (Err QuoteNotLive) (Ok (tt {0}))) (sym c.has_inexecutable.ensures ∙ c.if-has_inexecutable.true))

pub returns : goal.returns
returns g c =
    let m = c.args.market.now in
    sym
    (left_to m.tables (g.S.Source.rows m.source) (g.S.Source.screen m.source) c.args.call.now c.in_ok-judge_form.ensures c.in_ok-judge_caller.ensures
    ∙ ap (λ (b : Bool). cond b (Err QuoteNotLive) (Ok (tt {0}))) (sym c.has_inexecutable.ensures ∙ c.if-has_inexecutable.false))
