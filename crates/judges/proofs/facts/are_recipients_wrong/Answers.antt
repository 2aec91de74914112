use Rattle.std.proofs.Common.{◌≡◌, eqb, ◌||◌, sym, ap, ◌∙◌}
use Rattle.std.proofs.lemmas.Bool.{eq-eqb, ne_eqb, or_left}
use Rattle.venue.specs.Days.{bit}
use Rattle.venue.specs.Calls.{has_stranger}
use Rattle.tables.specs.Tabled.{bare_day}
use Rattle.judges.proofs.Strangers.{neither}
use Rattle.judges.proofs.facts.are_recipients_wrong.Goals.{then-recipients-eq0, else-recipients-eq0}
use Rattle.judges.proofs.facts.are_recipients_wrong.Goals as goal

pub returns-else-has_stranger : goal.returns-else-has_stranger
returns-else-has_stranger c =
    let e = c.args.entry.now in
    let strange = has_stranger (bare_day c.args.t.now) e.recipients 64 in
    let tested : c.if-recipients-eq0.value ≡ (eqb e.recipients 0 || strange) =
    elim c.if-recipients-eq0.branch [
      | then-recipients-eq0 w ↦ let none = eq-eqb _ _ w.if-recipients-eq0.true in w.value-is ∙ none ∙ sym (or_left _ strange none)
      | else-recipients-eq0 w ↦ w.value-is ∙ w.has_stranger.ensures ∙ ap (λ b. b || strange) (sym (ne_eqb _ _ w.if-recipients-eq0.false))
    ] in
    c.has_bit.ensures ∙ sym (neither (eqb e.recipients 0) strange (bit e.recipients e.user) (sym tested ∙ c.if-has_stranger.false))
