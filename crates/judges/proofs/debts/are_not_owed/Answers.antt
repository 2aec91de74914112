use Rattle.std.proofs.Common.{◌≡◌, suc, ◌+◌, ◌-◌, ◌||◌, sym, ap, ◌∙◌, arith}
use Rattle.std.proofs.lemmas.Bool.{or_left}
use Rattle.tables.specs.Tabled.{bare_day}
use Rattle.venue.specs.Calls.{not_owed}
use Rattle.judges.proofs.debts.are_not_owed.Goals as goal

pub returns-then-is_not_owed : goal.returns-then-is_not_owed
returns-then-is_not_owed c =
    let ts = (bare_day c.args.t.now).trades in
    let n = c.loop-n.n in
    let more : c.args.last + 1 - n ≡ suc (c.args.last - n) = omega arith in
    sym (c.loop-n.invariant ∙ ap (not_owed ts n) more ∙ or_left _ _ (sym c.is_not_owed.ensures ∙ c.if-is_not_owed.true))

pub loop-n-preserved : goal.loop-n-preserved
loop-n-preserved c =
    let ts = (bare_day c.args.t.now).trades in
    let n = c.loop-n.n in
    let more : c.args.last + 1 - n ≡ suc (c.args.last - n) = omega arith in
    let left : c.args.last - n ≡ c.args.last + 1 - (n + 1) = omega arith in
    c.loop-n.invariant
    ∙ ap (not_owed ts n) more
    ∙ ap (λ b. b || not_owed ts (n + 1) (c.args.last - n)) (sym c.is_not_owed.ensures ∙ c.if-is_not_owed.false)
    ∙ ap (not_owed ts (n + 1)) left

pub returns : goal.returns
returns c =
    let none : c.args.last + 1 - c.loop-n.n ≡ 0 = omega arith in
    sym (c.loop-n.invariant ∙ ap (not_owed (bare_day c.args.t.now).trades c.loop-n.n) none)
