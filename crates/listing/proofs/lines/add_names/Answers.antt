use Rattle.std.proofs.Common.{◌≡◌, ℕ, ◌/◌, ◌^◌, Bor, List, [], ◌++◌, codes, get_or, map, vec_items, ◌∙◌, rules}
use Rattle.std.proofs.lemmas.List.{get_or-map, length-map}
use Rattle.records.specs.Bytes.{odd}
use Rattle.listing.specs.Lines.{only}
use Rattle.listing.proofs.Parts.{names_more}
use Rattle.listing.proofs.lines.add_names.Goals as goal
use Rattle.listing.proofs.lines.add_names.Goals.{then-bits-i-eq1+in_ok-add, else-bits-i-eq1}

pub loop-i-preserved : goal.loop-i-preserved
loop-i-preserved c =
    let l = c.loop-i in
    let n = c.args.bits in
    let names = map (λ s. s.now) c.args.names.now in
    let at = λ (d : Bor (List ℕ)). get_or-map (λ s. s.now) c.args.names.now l.i d [] c.loop-i-test.true in
    let added : vec_items c.if-bits-i-eq1.text ≡ vec_items l.text ++ only (odd (n / 2 ^ l.i)) (codes " " ++ get_or names l.i []) =
    elim c.if-bits-i-eq1.branch [ then-bits-i-eq1+in_ok-add w ↦ search (rules, at) | else-bits-i-eq1 w ↦ search rules ] in
    l.invariant ∙ names_more names l.i n (vec_items l.text) _ (simp length-map c.loop-i-test.true) added
