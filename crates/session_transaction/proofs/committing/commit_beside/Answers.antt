use Rattle.std.proofs.Common.{refl}
use Rattle.session_transaction.proofs.committing.commit_beside.Goals as goal

pub returns-in-Done-clause-answer : goal.returns-in-Done-clause-answer
returns-in-Done-clause-answer g c = record { reply = _; step = c.in-Done.ensures.answer; told = refl; counts = c.in-Done.ensures.steps }

pub returns-in-Conflict-clause-answer : goal.returns-in-Conflict-clause-answer
returns-in-Conflict-clause-answer g c = record { reply = _; step = c.in-Conflict.ensures.answer; told = refl; counts = c.in-Conflict.ensures.steps }

pub returns-in-FullTriples-clause-answer : goal.returns-in-FullTriples-clause-answer
returns-in-FullTriples-clause-answer g c = record { reply = _; step = c.in-FullTriples.ensures.answer; told = refl; counts = c.in-FullTriples.ensures.steps }

pub returns-in-Refused-clause-answer : goal.returns-in-Refused-clause-answer
returns-in-Refused-clause-answer g c =
    let refused = c.in-Refused.ensures.answer in
    record { reply = _; step = refused.0; told = (refl, refused.1, refused.2); counts = c.in-Refused.ensures.steps }

pub returns-in-Stopped-clause-answer : goal.returns-in-Stopped-clause-answer
returns-in-Stopped-clause-answer g c = record { reply = _; step = c.in-Stopped.ensures.answer; told = refl; counts = c.in-Stopped.ensures.steps }

pub returns-in-Memory-clause-answer : goal.returns-in-Memory-clause-answer
returns-in-Memory-clause-answer g c = (c.in-Memory.ensures.answer.0, c.in-Memory.ensures.answer.1, c.in-Memory.ensures.steps)

pub returns-in-LogFault-clause-answer : goal.returns-in-LogFault-clause-answer
returns-in-LogFault-clause-answer g c = record { reply = _; step = c.in-LogFault.ensures.answer; told = refl; counts = c.in-LogFault.ensures.steps }
