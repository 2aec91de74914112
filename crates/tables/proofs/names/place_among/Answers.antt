use Rattle.std.proofs.Common.{◌∙◌, rules, tests}
use Rattle.std.proofs.lemmas.Iterator.{YieldsList-from_slice}
use Rattle.std.proofs.lemmas.Iterator.Search.{position_from_yields_List}
use Rattle.tables.proofs.Spelling.{has_name, place_is}
use Rattle.tables.proofs.names.place_among.Goals as goal

pub returns : goal.returns
returns c =
    position_from_yields_List (has_name c.args.name.now) _ _ _ c.position.ensures.ran (YieldsList-from_slice c.args.symbols.now cc) (λ x b q k. search (rules, tests))
    ∙ place_is c.args.symbols.now c.args.name.now
