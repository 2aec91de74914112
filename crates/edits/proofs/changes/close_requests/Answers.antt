use Rattle.std.proofs.Common.{rules}
use Rattle.venue.specs.declared.rows.Life.TheVariants.{Closed}
use Rattle.venue.specs.Model.{ended_as}
use Rattle.edits.proofs.Swept.{swept}
use Rattle.edits.proofs.changes.close_requests.Goals as goal

pub returns : goal.returns
returns c = swept _ (ended_as Closed) (λ x y l. search rules) _ _ c.sweep.ensures.each
