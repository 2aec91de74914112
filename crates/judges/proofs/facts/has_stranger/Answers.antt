use Rattle.std.proofs.Common.{refl, ◌∙◌, rules, tests}
use Rattle.std.proofs.lemmas.Iterator.{YieldsList-from_range}
use Rattle.std.proofs.lemmas.Iterator.Search.{any_from_yields_List}
use Rattle.tables.specs.Tabled.{bare_day}
use Rattle.judges.proofs.Strangers.{strange, any_stranger}
use Rattle.judges.proofs.facts.has_stranger.Goals as goal

pub returns : goal.returns
returns c =
    let d = bare_day c.args.t.now in
    any_from_yields_List (strange d c.args.set) _ _ _ c.any.ensures.ran (YieldsList-from_range 0 64 64 refl refl) (λ x b q k. search (rules, tests))
    ∙ any_stranger d c.args.set 64
