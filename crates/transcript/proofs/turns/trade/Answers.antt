use Rattle.std.proofs.Common.{rules}
use Rattle.transcript.proofs.turns.trade.Goals as goal

pub returns-in-Some-PriceQuestion-clause-answered : goal.returns-in-Some-PriceQuestion-clause-answered
returns-in-Some-PriceQuestion-clause-answered g c =
    let asked = rw c.price_question_of.ensures at c.ask_price.ensures in
    search rules
