use Rattle.std.proofs.Common.{◌≡◌, ℕ, List, length, sym, ap, ◌∙◌, subst, arith}
use Rattle.records.specs.Writing.{over}
use Rattle.tables.specs.Tabled.{bare_day}
use Rattle.tables.specs.Priced.{market_day}
use Rattle.pages.specs.Rows.{places, row_at, row_bytes}
use Rattle.pages.proofs.ByNumber.{lines_more, lines_to, lines_within}
use Rattle.pages.proofs.Putting.{Put, put_then}
use Rattle.pages.proofs.Told.{told_by_number}
use Rattle.pages.proofs.rows.Page.put.Goals as goal

pub put_row-at-requires : goal.put_row-at-requires
put_row-at-requires g c =
    let p = c.args.self.now in
    let d = market_day g.S.Source.rows g.S.Source.screen p.market.now in
    let f : ℕ → List ℕ = λ n. row_bytes d p.user (row_at (bare_day p.market.now.tables) p.user p.content n) in
    let within = lines_within f c.loop-n.n (places d p.content) (omega arith) in
    let all = ap length (told_by_number d p.user p.content) in
    let long = c.loop-n.invariant.bytes in
    let place = c.loop-n.invariant.place in
    record { number = (omega arith, omega arith); room = omega arith }

pub loop-n-preserved : goal.loop-n-preserved
loop-n-preserved g c =
    let p = c.args.self.now in
    let d = market_day g.S.Source.rows g.S.Source.screen p.market.now in
    let f : ℕ → List ℕ = λ n. row_bytes d p.user (row_at (bare_day p.market.now.tables) p.user p.content n) in
    let more = put_then c.args.out.now _ _ _ _ _ _ c.loop-n.invariant c.put_row-at.ensures.after c.put_row-at.ensures.next in
    subst (λ (l : List ℕ). Put c.args.out.now l c.put_row-at.new.out c.put_row-at.result) (sym (lines_more f c.loop-n.n)) more

pub returns : goal.returns
returns g c =
    let p = c.args.self.now in
    let d = market_day g.S.Source.rows g.S.Source.screen p.market.now in
    let f : ℕ → List ℕ = λ n. row_bytes d p.user (row_at (bare_day p.market.now.tables) p.user p.content n) in
    let last : c.loop-n.n ≡ places d p.content = omega arith in
    c.loop-n.invariant.bytes ∙ ap (over c.args.out.now 0) (ap (lines_to f) last ∙ told_by_number d p.user p.content)
