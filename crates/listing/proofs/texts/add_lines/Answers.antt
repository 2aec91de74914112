use Rattle.std.proofs.Common.{ℕ, Bool, true, List, ◌++◌, length, vec_items, Option, sym, ap, ◌∙◌, arith}
use Rattle.listing.specs.Listing.{text, totals, then}
use Rattle.listing.proofs.Runs.{text_done, turned, counted, moves}
use Rattle.listing.proofs.texts.add_lines.Goals as goal

pub returns-in-None : goal.returns-in-None
returns-in-None c =
    let s = c.args.bytes.now in
    let l = c.loop-at in
    let now = c.add_turn.new.tally in
    let t = c.in_ok-next.ensures in
    let step = turned s l.at l.tally.read l.tally.refused now.read now.refused _ _ _ _ _ c.loop-at-test.true t in
    let rest : Option ℕ → List ℕ = λ o. vec_items c.add_turn.new.text ++ then o (λ p. text (length s) s p now.read now.refused) (totals true now.read now.refused (length s)) in
    ap (λ (b : Bool). vec_items c.add_turn.new.text ++ totals b now.read now.refused (length s)) (t.same_is ∙ l.invariant.same) ∙ ap rest (sym c.in-None.is) ∙ sym step ∙ sym l.invariant.said

pub loop-at-preserved : goal.loop-at-preserved
loop-at-preserved c =
    let s = c.args.bytes.now in
    let l = c.loop-at in
    let now = c.add_turn.new.tally in
    let t = c.in_ok-next.ensures in
    let step = turned s l.at l.tally.read l.tally.refused now.read now.refused _ _ _ _ _ c.loop-at-test.true t in
    let more = counted s l.at l.tally.read l.tally.refused now.read now.refused _ _ _ _ _ c.loop-at-test.true t in
    let on = moves s l.at c.in-Some.next (sym t.next_is ∙ c.in-Some.is) in
    let rest : Option ℕ → List ℕ = λ o. vec_items c.add_turn.new.text ++ then o (λ p. text (length s) s p now.read now.refused) (totals true now.read now.refused (length s)) in
    record { said = l.invariant.said ∙ step ∙ ap rest c.in-Some.is; counted = omega arith; same = t.same_is ∙ l.invariant.same }

pub returns : goal.returns
returns c =
    let s = c.args.bytes.now in
    let l = c.loop-at in
    let was = vec_items l.text in
    let done = text_done (length s) s l.at l.tally.read l.tally.refused c.loop-at-test.false in
    ap (λ (b : Bool). was ++ totals b l.tally.read l.tally.refused (length s)) l.invariant.same ∙ ap (λ (t : List ℕ). was ++ t) (sym done) ∙ sym l.invariant.said

pub loop-at-smaller : goal.loop-at-smaller
loop-at-smaller c =
    let on = moves c.args.bytes.now c.loop-at.at c.in-Some.next (sym c.in_ok-next.ensures.next_is ∙ c.in-Some.is) in
    omega arith
