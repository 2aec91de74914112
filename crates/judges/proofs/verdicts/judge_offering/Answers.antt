use Rattle.std.proofs.Common.{◌++◌, Err, sym, ap, ◌∙◌}
use Rattle.std.proofs.lemmas.Result.{err_from_is_err_and}
use Rattle.records.proofs.Unless.{verdict, unless_next, unless_first}
use Rattle.venue.specs.Days.{request_of}
use Rattle.venue.specs.Calls.{Call.offer, form_causes, offer_causes}
use Rattle.venue.specs.Parts.{term_causes, place_causes, shown_causes}
use Rattle.tables.specs.Tabled.{bare_day}
use Rattle.judges.proofs.verdicts.judge_offering.Goals as goal

pub returns-in_err-judge_form : goal.returns-in_err-judge_form
returns-in_err-judge_form c =
    let d = bare_day c.args.t.now in
    let o = c.args.offering.now in
    let p = err_from_is_err_and c.from_residual.result c.from_residual.ensures.1 in
    p.1 ∙ ap Err p.2 ∙ sym (unless_first (form_causes (offer o)) (offer_causes d o) _ c.in_err-judge_form.ensures)

pub returns-in_err-judge_terms : goal.returns-in_err-judge_terms
returns-in_err-judge_terms c =
    let d = bare_day c.args.t.now in
    let o = c.args.offering.now in
    let p = err_from_is_err_and c.from_residual-in_err-judge_terms.result c.from_residual-in_err-judge_terms.ensures.1 in
    p.1
    ∙ ap Err p.2
    ∙ sym (unless_next (form_causes (offer o)) (offer_causes d o) c.in_ok-judge_form.ensures
    ∙ unless_first (term_causes d o) (place_causes d o ++ shown_causes (request_of d o.request) o) _ c.in_err-judge_terms.ensures)

pub returns-in_err-judge_place : goal.returns-in_err-judge_place
returns-in_err-judge_place c =
    let d = bare_day c.args.t.now in
    let o = c.args.offering.now in
    let p = err_from_is_err_and c.from_residual-in_err-judge_place.result c.from_residual-in_err-judge_place.ensures.1 in
    p.1
    ∙ ap Err p.2
    ∙ sym (unless_next (form_causes (offer o)) (offer_causes d o) c.in_ok-judge_form.ensures
    ∙ unless_next (term_causes d o) (place_causes d o ++ shown_causes (request_of d o.request) o) c.in_ok-judge_terms.ensures
    ∙ unless_first (place_causes d o) (shown_causes (request_of d o.request) o) _ c.in_err-judge_place.ensures)

pub returns : goal.returns
returns c =
    let d = bare_day c.args.t.now in
    let o = c.args.offering.now in
    let legs = c.judge_legs.ensures ∙ ap (λ r. verdict (shown_causes r o)) c.request.ensures in
    legs
    ∙ sym (unless_next (form_causes (offer o)) (offer_causes d o) c.in_ok-judge_form.ensures
    ∙ unless_next (term_causes d o) (place_causes d o ++ shown_causes (request_of d o.request) o) c.in_ok-judge_terms.ensures
    ∙ unless_next (place_causes d o) (shown_causes (request_of d o.request) o) c.in_ok-judge_place.ensures)
