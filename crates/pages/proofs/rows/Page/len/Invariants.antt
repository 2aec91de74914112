use Rattle.std.proofs.Common.{◌≡◌, ◌*◌, ◌≤◌, length}
use Rattle.tables.specs.Tabled.{bare_day}
use Rattle.tables.specs.Priced.{market_day}
use Rattle.pages.specs.Rows.{row_at, row_bytes}
use Rattle.pages.proofs.ByNumber.{lines_to}
use Rattle.pages.proofs.rows.Page.len.Given as goal

abbrev pub invariant-loop-n : goal.invariant-loop-n
invariant-loop-n g l =
    let d = market_day g.S.Source.rows g.S.Source.screen l.self.market.now in
    (l.len ≡ length (lines_to (λ n. row_bytes d l.self.user (row_at (bare_day l.self.market.now.tables) l.self.user l.self.content n)) l.n))
    × (l.len ≤ 131 * l.n)
