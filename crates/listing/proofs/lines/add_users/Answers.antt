use Rattle.std.proofs.Common.{◌≡◌, ◌/◌, ◌^◌, ◌++◌, codes, decimal, vec_items, ◌∙◌, append_assoc, rules}
use Rattle.records.specs.Bytes.{odd}
use Rattle.listing.specs.Lines.{only}
use Rattle.listing.proofs.Parts.{users_more, users_all}
use Rattle.listing.proofs.lines.add_users.Goals as goal
use Rattle.listing.proofs.lines.add_users.Goals.{then-users-user-eq1+in_ok-add, else-users-user-eq1}

pub loop-user-preserved : goal.loop-user-preserved
loop-user-preserved c =
    let l = c.loop-user in
    let n = c.args.users in
    let i = l.user-counter in
    let added : vec_items c.if-users-user-eq1.text ≡ vec_items l.text ++ only (odd (n / 2 ^ i)) (codes " " ++ decimal i) =
    elim c.if-users-user-eq1.branch [ then-users-user-eq1+in_ok-add w ↦ search rules | else-users-user-eq1 w ↦ search rules ] in
    l.invariant ∙ users_more i n (vec_items l.text) _ c.loop-user-test.true added

pub returns : goal.returns
returns c =
    let l = c.loop-user in
    let all = users_all l.user-counter c.args.users (vec_items l.text) c.loop-user-test.false in
    let done = l.invariant ∙ all in
    search (rules, append_assoc)
