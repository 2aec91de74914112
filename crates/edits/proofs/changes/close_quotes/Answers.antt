use Rattle.std.proofs.Common.{rules}
use Rattle.venue.specs.Model.{ended}
use Rattle.edits.proofs.Swept.{swept}
use Rattle.edits.proofs.changes.close_quotes.Goals as goal

pub returns : goal.returns
returns c = swept _ ended (λ x y l. search rules) _ _ c.sweep.ensures.each
