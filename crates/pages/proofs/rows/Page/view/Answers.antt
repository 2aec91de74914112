use Rattle.pages.proofs.Whole.{few_places}
use Rattle.pages.proofs.rows.Page.view.Goals as goal

pub invariant_of-result : goal.invariant_of-result
invariant_of-result g c = record { tellable = c.requires.tellable; few = few_places c.args.market.now.tables c.args.seen c.requires.few }
