use Rattle.std.proofs.Common.{◌≡◌, ℕ, List, length, ap, ◌∙◌, arith}
use Rattle.tables.specs.Tabled.{bare_day}
use Rattle.tables.specs.Priced.{market_day}
use Rattle.pages.specs.Rows.{places, row_at, row_bytes}
use Rattle.pages.proofs.ByNumber.{length_more, lines_to}
use Rattle.pages.proofs.Told.{told_by_number}
use Rattle.pages.proofs.rows.Page.len.Goals as goal

pub loop-n-preserved : goal.loop-n-preserved
loop-n-preserved g c =
    let d = market_day g.S.Source.rows g.S.Source.screen c.args.self.now.market.now in
    let p = c.args.self.now in
    let more = length_more (λ n. row_bytes d p.user (row_at (bare_day p.market.now.tables) p.user p.content n)) c.loop-n.n in
    (omega arith, omega arith)

pub returns : goal.returns
returns g c =
    let p = c.args.self.now in
    let d = market_day g.S.Source.rows g.S.Source.screen p.market.now in
    let f : ℕ → List ℕ = λ n. row_bytes d p.user (row_at (bare_day p.market.now.tables) p.user p.content n) in
    let last : c.loop-n.n ≡ places d p.content = omega arith in
    c.loop-n.invariant.0 ∙ ap (λ n. length (lines_to f n)) last ∙ ap length (told_by_number d p.user p.content)
