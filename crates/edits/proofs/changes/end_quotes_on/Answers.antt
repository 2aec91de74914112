use Rattle.std.proofs.Common.{eqb, rules}
use Rattle.venue.specs.declared.rows.Quote.{Quote}
use Rattle.venue.specs.Model.{ended_if}
use Rattle.edits.proofs.Swept.{swept}
use Rattle.edits.proofs.changes.end_quotes_on.Goals as goal

pub returns : goal.returns
returns c = swept _ (λ (q : Quote). ended_if (eqb q.request c.args.n) q) (λ x y l. search rules) _ _ c.sweep.ensures.each
