use Rattle.std.proofs.Common.{arith}
use Rattle.std.proofs.lemmas.Bool.Decides.{nat_tests}
use Rattle.tables.proofs.Spelling.{before_by_number}
use Rattle.tables.proofs.names.name_precedes.Goals as goal

pub returns : goal.returns
returns c =
    let known = before_by_number c.args.a.now c.args.b.now (omega arith) (omega arith) c.fits-a c.fits-b in
    grind (arith, nat_tests)
