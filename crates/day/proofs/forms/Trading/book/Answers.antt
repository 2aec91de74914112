use Rattle.std.proofs.Common.{length, refl}
use Rattle.venue.specs.Calls.{Call.book}
use Rattle.venue.specs.Pages.{book_page}
use Rattle.day.specs.Told.{trading_day}
use Rattle.day.proofs.Showing.{shows_page, shows_broken}
use Rattle.day.proofs.forms.Trading.book.Goals as goal

pub returns-in_err-book : goal.returns-in_err-book
returns-in_err-book g c =
    let d = trading_day g.S.Source.rows g.S.Source.screen c.args.self.now in
    shows_broken d (book c.args.user c.args.request (length c.args.out.now)) (book_page d c.args.request) _ _ refl refl c.from_residual.result _ c.from_residual.ensures.1 c.in_err-book.ensures

pub returns : goal.returns
returns g c =
    let d = trading_day g.S.Source.rows g.S.Source.screen c.args.self.now in
    shows_page d (book c.args.user c.args.request (length c.args.out.now)) (book_page d c.args.request) _ _ refl refl _ c.in_ok-book.ensures
