use Rattle.transcript.proofs.runs.Run.answer.Goals as goal

pub returns-in-Trading-default-clause-answered : goal.returns-in-Trading-default-clause-answered
returns-in-Trading-default-clause-answered g c =
    let answered = rw c.deref_mut-in-Trading-default.ensures.value at c.trade-answer.ensures.answered in
    rw c.in-Trading-default.is-0 (rw c.in-Trading-default.day-is at answered)
