use Rattle.std.proofs.lemmas.Result.{err_from_is_err_and}
use Rattle.shape_reader.proofs.Requests.{asks_nothing}
use Rattle.shape_reader.proofs.read.read_shapes.Goals as goal

pub returns-in_err-indexed-clause-asked : goal.returns-in_err-indexed-clause-asked
returns-in_err-indexed-clause-asked g c =
    let p = err_from_is_err_and c.from_residual.result c.from_residual.ensures.1 in rw (p.1, p.2) (asks_nothing c.args.graph.now (g.M.Maker.asked c.args.maker.now))

pub returns-in_err-survey-clause-asked : goal.returns-in_err-survey-clause-asked
returns-in_err-survey-clause-asked g c =
    let p = err_from_is_err_and c.from_residual-in_err-survey.result c.from_residual-in_err-survey.ensures.1 in rw (p.1, p.2) (asks_nothing c.args.graph.now (g.M.Maker.asked c.args.maker.now))

pub returns-clause-answer : goal.returns-clause-answer
returns-clause-answer g c = let h = rw c.in_ok-indexed.ensures at c.in_ok-shapes.ensures.answer in (h.0, h.1.0.compiled)

pub returns-clause-once : goal.returns-clause-once
returns-clause-once g c = c.in_ok-shapes.ensures.answer.1.0.once

pub returns-clause-refused : goal.returns-clause-refused
returns-clause-refused g c = c.in_ok-shapes.ensures.answer.1.1

pub returns-clause-asked : goal.returns-clause-asked
returns-clause-asked g c = rw c.in_ok-indexed.ensures at c.in_ok-shapes.ensures.asked
