use Rattle.std.proofs.Common.{not, ◌∙◌, rules, tests}
use Rattle.std.proofs.lemmas.Iterator.{YieldsList-from_slice}
use Rattle.std.proofs.lemmas.Iterator.Search.{any_from_yields_List}
use Rattle.venue.specs.declared.rows.Trade.{Trade}
use Rattle.judges.proofs.Strangers.{any_unfiled}
use Rattle.judges.proofs.debts.has_unfiled.Goals as goal

pub returns : goal.returns
returns c =
    any_from_yields_List (λ (t : Trade). not t.filed) _ _ _ c.any.ensures.ran (YieldsList-from_slice c.args.trades.now cc) (λ x b q k. search (rules, tests))
    ∙ any_unfiled c.args.trades.now
