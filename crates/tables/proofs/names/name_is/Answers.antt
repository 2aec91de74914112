use Rattle.std.proofs.Common.{arith}
use Rattle.std.proofs.lemmas.Bool.Decides.{nat_tests}
use Rattle.tables.proofs.Spelling.{same_by_number}
use Rattle.tables.proofs.names.name_is.Goals as goal

pub returns : goal.returns
returns c =
    let known = same_by_number c.args.name.now c.args.other.now (omega arith) (omega arith) c.fits-name c.fits-other in
    grind (arith, nat_tests)
