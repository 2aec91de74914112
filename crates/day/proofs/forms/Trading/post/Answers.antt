use Rattle.std.proofs.Common.{◌≡◌, ℕ, ◌<◌, unwrap_or, sym, refl, ap, ◌∙◌, subst}
use Rattle.std.proofs.lemmas.Bool.{cond-true, lt-ltb}
use Rattle.prices.specs.Rows.{post_rows, row_of}
use Rattle.tables.specs.Tabled.{bare_day, day_of}
use Rattle.venue.specs.Days.{place_of}
use Rattle.day.specs.Told.{told_done}
use Rattle.day.proofs.Rooms.{place_within}
use Rattle.day.proofs.Stepping.{when_granted}
use Rattle.day.proofs.forms.Trading.post.Goals as goal

pub returns : goal.returns
returns g c =
    let s = c.args.self.now in
    let t = s.market.tables in
    let rs = g.S.Source.rows s.market.source in
    let sc = g.S.Source.screen s.market.source in
    let place : c.unwrap_or-place.result ≡ unwrap_or (place_of (bare_day t) c.args.posting.name) 0 = c.unwrap_or-place.ensures ∙ ap (λ o. unwrap_or o 0) c.place_of.ensures in
    let within = place_within t c.args.posting.name in
    let posted = c.post.ensures.answer ∙ cond-true _ _ _ (lt-ltb _ _ (subst (λ (n : ℕ). n < 64) (sym place) within)) in
    let rows =
    c.post.ensures.rows
    ∙ ap (λ p. post_rows rs p (row_of c.pair_posted.result t.clock)) place
    ∙ ap (λ p. post_rows rs (unwrap_or (place_of (bare_day t) c.args.posting.name) 0) (row_of p t.clock)) c.pair_posted.ensures in
    when_granted _ _ _ _ _ c.in_ok-judge_posting.ensures refl
    (ap (λ l. day_of t l (g.S.Source.screen c.post.new.self)) rows ∙ ap (day_of t _) c.post.ensures.screen)
    (ap told_done posted)
