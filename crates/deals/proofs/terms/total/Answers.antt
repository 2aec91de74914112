use Rattle.std.proofs.Common.{◌≡◌, ◌∙◌, refl, sym, rules}
use Rattle.std.proofs.iter.runs.Made.{chains}
use Rattle.std.proofs.lemmas.List.Recursion.{is_sum_by}
use Rattle.std.specs.List.{sum_by}
use Rattle.venue.specs.declared.rows.Trade.{Trade}
use Rattle.venue.specs.Trading.{total}
use Rattle.deals.proofs.terms.total.Goals as goal

pub returns : goal.returns
returns c =
    let trades = c.args.trades.now in
    let all : c.sum.result ≡ sum_by (λ (t : Trade). t.quantity) trades = search (rules, chains) in
    all ∙ sym (is_sum_by total (λ (t : Trade). t.quantity) refl (λ t ts. refl) trades)
