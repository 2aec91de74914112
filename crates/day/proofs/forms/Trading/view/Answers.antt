use Rattle.std.proofs.Common.{length, refl}
use Rattle.venue.specs.Calls.{Call.view}
use Rattle.venue.specs.Pages.{view_page}
use Rattle.day.specs.Told.{trading_day}
use Rattle.day.proofs.Showing.{shows_page, shows_broken}
use Rattle.day.proofs.forms.Trading.view.Goals as goal

pub returns-in_err-view : goal.returns-in_err-view
returns-in_err-view g c =
    let d = trading_day g.S.Source.rows g.S.Source.screen c.args.self.now in
    shows_broken d (view c.args.user (length c.args.out.now)) (view_page d c.args.user) _ _ refl refl c.from_residual.result _ c.from_residual.ensures.1 c.in_err-view.ensures

pub returns : goal.returns
returns g c =
    let d = trading_day g.S.Source.rows g.S.Source.screen c.args.self.now in
    shows_page d (view c.args.user (length c.args.out.now)) (view_page d c.args.user) _ _ refl refl _ c.in_ok-view.ensures
