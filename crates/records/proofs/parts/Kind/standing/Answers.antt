use Rattle.std.proofs.Common.{arith}
use Rattle.records.proofs.Standings.{standing_few}
use Rattle.records.proofs.parts.Kind.standing.Goals as goal

pub returns-clause-few : goal.returns-clause-few
returns-clause-few c = omega (arith, standing_few c.slots.result.now)
