use Rattle.std.proofs.Common.{not, ◌-◌, length, drop, ap, ◌∙◌, rules, tests, arith, length-drop}
use Rattle.std.proofs.lemmas.Iterator.{YieldsList-from_slice}
use Rattle.std.proofs.lemmas.Iterator.Search.{position_from_yields_List}
use Rattle.std.proofs.lemmas.List.{take_all}
use Rattle.venue.specs.Days.{sign, blanks}
use Rattle.tables.proofs.Spelling.{padded_is}
use Rattle.tables.proofs.names.is_padded.Goals as goal

pub returns : goal.returns
returns c =
    let bytes = c.args.bytes.now in
    let found = position_from_yields_List (λ b. not (sign b)) _ _ _ c.position.ensures.ran (YieldsList-from_slice bytes cc) (λ x b q k. search (rules, tests)) in
    c.is_blank.ensures
    ∙ ap blanks (take_all (length bytes - c.unwrap_or-end.result) _ (omega (arith, length-drop c.unwrap_or-end.result bytes)) ∙ ap (λ n. drop n bytes) c.unwrap_or-end.ensures)
    ∙ padded_is bytes c.position.result found
