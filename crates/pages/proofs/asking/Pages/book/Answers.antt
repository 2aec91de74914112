use Rattle.std.proofs.Common.{ℕ, List, sym, ◌∙◌, subst}
use Rattle.std.proofs.lemmas.Result.{err_from_is_err_and}
use Rattle.tables.specs.Priced.{market_day}
use Rattle.venue.specs.Pages.{book_page}
use Rattle.pages.specs.Paged.{Fitted, asker_causes}
use Rattle.pages.specs.declared.rows.Content.TheVariants.{Book}
use Rattle.pages.proofs.Judged.{admitted, turned_away}
use Rattle.pages.proofs.Told.{page_is}
use Rattle.pages.proofs.Whole.{book_lines, book_tellable}
use Rattle.pages.proofs.asking.Pages.book.Goals as goal

pub returns-in_err-judge_owner : goal.returns-in_err-judge_owner
returns-in_err-judge_owner g c =
    let d = market_day g.S.Source.rows g.S.Source.screen c.args.self.now.market.now in
    let p = err_from_is_err_and c.from_residual.result c.from_residual.ensures.1 in
    rw (p.1, p.2) (turned_away (asker_causes d c.args.user c.args.request) (book_page d c.args.request) c.args.out.now _ (sym c.in_err-judge_owner.ensures.answer))

pub book-requires : goal.book-requires
book-requires g c =
    let t = c.args.self.now.market.now.tables in
    record { tellable = book_tellable t c.args.self.now.placed c.args.user c.args.request c.as_slice.result c.in_ok-judge_owner.ensures.own; few = c.as_slice.ensures.fits }

pub returns : goal.returns
returns g c =
    let list = c.as_slice.ensures.value ∙ c.list_executables.ensures in
    let d = market_day g.S.Source.rows g.S.Source.screen c.args.self.now.market.now in
    let u = c.args.user in
    let n = c.args.request in
    let page = page_is g.S.Source.rows g.S.Source.screen c.book.result c.args.self.now.market.now u (Book n c.as_slice.result) c.book.ensures.market c.book.ensures.user c.book.ensures.content ∙ book_lines d u n c.as_slice.result list in
    let put = subst (λ (l : List ℕ). Fitted l c.args.out.now c.write.new.out c.write.result) page c.write.ensures in
    admitted (asker_causes d u n) (book_page d n) c.args.out.now _ _ (sym c.in_ok-judge_owner.ensures.answer) put
