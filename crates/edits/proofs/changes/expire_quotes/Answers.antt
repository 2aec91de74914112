use Rattle.std.proofs.Common.{rules}
use Rattle.edits.specs.Sweeps.{expired_quote}
use Rattle.edits.proofs.Swept.{swept}
use Rattle.edits.proofs.changes.expire_quotes.Goals as goal

pub returns : goal.returns
returns c = swept _ (expired_quote c.args.time c.args.requests.now) (λ x y l. search rules) _ _ c.sweep.ensures.each
