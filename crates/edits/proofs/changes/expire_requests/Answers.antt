use Rattle.std.proofs.Common.{rules}
use Rattle.edits.specs.Sweeps.{expired_row}
use Rattle.edits.proofs.Swept.{swept}
use Rattle.edits.proofs.changes.expire_requests.Goals as goal

pub returns : goal.returns
returns c = swept _ (expired_row c.args.time) (λ x y l. search rules) _ _ c.sweep.ensures.each
