use Rattle.std.proofs.Common.{refl}
use lib.Utf8.{encode}
use Rattle.std.specs.Fmt.{digits}
use Rattle.transcript.proofs.theorems.examples_stand.Goals as goal

pub returns : goal.returns
unfolding encode digits
returns c = record { five = refl; day = refl }
