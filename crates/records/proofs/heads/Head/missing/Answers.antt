use Rattle.std.proofs.Common.{◌≡◌, true, false, sym, ap, ◌∙◌, rules}
use Rattle.std.specs.List.{enumerate_from}
use Rattle.std.proofs.lemmas.Bool.Decides.{nat_tests}
use Rattle.std.proofs.lemmas.Iterator.{cases_from_any, YieldsList-from_slice}
use Rattle.std.proofs.lemmas.Iterator.Consumers.{YieldsList-from_enumerate}
use Rattle.records.specs.declared.parts.Field.TheVariants.{User}
use Rattle.records.specs.declared.parts.Slot.TheVariants.{Must}
use Rattle.records.specs.Bytes.{missing}
use Rattle.records.proofs.Standings.{any_is, lacks, missing_is}
use Rattle.records.proofs.heads.Head.missing.Goals as goal

pub returns : goal.returns
returns c =
    let m = c.args.self.map in
    let ss = c.slots.result.now in
    let found = cases_from_any _ _ _ (λ p. lacks m p ≡ true) (λ p. lacks m p ≡ false) c.any.ensures.ran (YieldsList-from_enumerate (YieldsList-from_slice ss (cc)) (cc)) (λ x q k. search (rules, nat_tests)) (λ x q k. search (rules, nat_tests)) in
    any_is (lacks m) (enumerate_from 0 ss) c.any.result (0, Must User) found ∙ sym (missing_is ss m) ∙ ap (λ l. missing l m) c.slots.ensures.value
