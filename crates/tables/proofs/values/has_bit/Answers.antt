use Rattle.std.proofs.Common.{◌≡◌, ◌/◌, ◌^◌, ◌<◌, ◌≤◌, sym, ap, ◌∙◌, lt_of_lt_of_le, arith, pow_mono}
use native.Mathlib.Nat.{div-eq_of_lt}
use Rattle.std.proofs.lemmas.Bool.{le-ltb}
use Rattle.records.specs.Bytes.{odd}
use Rattle.tables.proofs.values.has_bit.Goals as goal

pub returns-else-from-lt-BITS : goal.returns-else-from-lt-BITS
returns-else-from-lt-BITS c =
    let small : c.args.set < 2 ^ 64 = omega arith in
    let past : 64 ≤ c.args.user = omega (arith, c.if-from-lt-BITS.false, c.from.ensures) in
    let nothing : c.args.set / 2 ^ c.args.user ≡ 0 = div-eq_of_lt (lt_of_lt_of_le small (pow_mono past)) in
    le-ltb _ _ c.if-from-lt-BITS.false ∙ sym (ap odd nothing)
