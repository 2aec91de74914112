use Rattle.std.proofs.Common.{ℕ, List, sym, ◌∙◌, subst}
use Rattle.std.proofs.lemmas.Result.{err_from_is_err_and}
use Rattle.tables.specs.Priced.{market_day}
use Rattle.venue.specs.Calls.{caller_causes}
use Rattle.venue.specs.Pages.{view_page}
use Rattle.pages.specs.Paged.{Fitted}
use Rattle.pages.specs.declared.rows.Content.TheVariants.{View}
use Rattle.pages.proofs.Judged.{admitted, turned_away}
use Rattle.pages.proofs.Told.{page_is}
use Rattle.pages.proofs.Whole.{view_lines, view_tellable}
use Rattle.pages.proofs.asking.Pages.view.Goals as goal

pub returns-in_err-judge_caller : goal.returns-in_err-judge_caller
returns-in_err-judge_caller g c =
    let d = market_day g.S.Source.rows g.S.Source.screen c.args.self.now.market.now in
    let p = err_from_is_err_and c.from_residual.result c.from_residual.ensures.1 in
    rw (p.1, p.2) (turned_away (caller_causes d c.args.user) (view_page d c.args.user) c.args.out.now _ (sym c.in_err-judge_caller.ensures.answer))

pub view-requires : goal.view-requires
view-requires g c =
    let t = c.args.self.now.market.now.tables in
    record { tellable = view_tellable t c.args.self.now.placed c.args.user c.as_slice.result (c.as_slice.ensures.value ∙ c.list_seen.ensures); few = c.as_slice.ensures.fits }

pub returns : goal.returns
returns g c =
    let list = c.as_slice.ensures.value ∙ c.list_seen.ensures in
    let d = market_day g.S.Source.rows g.S.Source.screen c.args.self.now.market.now in
    let u = c.args.user in
    let page = page_is g.S.Source.rows g.S.Source.screen c.view.result c.args.self.now.market.now u (View c.as_slice.result) c.view.ensures.market c.view.ensures.user c.view.ensures.content ∙ view_lines d u c.as_slice.result list in
    let put = subst (λ (l : List ℕ). Fitted l c.args.out.now c.write.new.out c.write.result) page c.write.ensures in
    admitted (caller_causes d u) (view_page d u) c.args.out.now _ _ (sym c.in_ok-judge_caller.ensures.answer) put
