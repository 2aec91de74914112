use Rattle.std.proofs.Common.{◌≡◌, true, false, not, refl, sym, ◌∙◌, rules}
use Rattle.std.proofs.lemmas.Iterator.{cases_from_any}
use Rattle.std.proofs.lemmas.Iterator.Consumers.{YieldsList-from_first}
use Rattle.records.specs.declared.parts.Field.TheVariants.{User}
use Rattle.records.specs.Bytes.{fits}
use Rattle.records.specs.Fields.{value}
use Rattle.records.specs.Layout.{shape}
use Rattle.records.proofs.Standings.{any_is, wrong_is}
use Rattle.records.proofs.heads.Standing.wrong.Goals as goal

pub returns : goal.returns
returns c =
    let r = c.args.fields.now in
    let found = cases_from_any _ _ _ (λ f. not (fits (shape f) (value f r)) ≡ true) (λ f. not (fits (shape f) (value f r)) ≡ false) c.any.ensures.ran (YieldsList-from_first (λ f. f) (λ rest. rest) c.args.self refl) (λ x q k. search rules) (λ x q k. search rules) in
    any_is (λ f. not (fits (shape f) (value f r))) c.args.self c.any.result User found ∙ sym (wrong_is r c.args.self)
