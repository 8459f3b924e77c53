use Rattle.std.proofs.lemmas.Result.{err_from_is_err_and}
use Rattle.file_validation.proofs.Asks.{asked_all}
use Rattle.file_validation.proofs.validating.explain.Goals as goal

pub returns-clause-answer : goal.returns-clause-answer
returns-clause-answer g c =
    let are = c.in-Ok.ensures.answer c.args.data_text.now c.args.shapes_text.now c.readings_in_turn-readings.ensures.readings in
    record {
      graph = are.0;
      shapes_graph = c.in-Ok.both.1;
      read = are.1;
      explained = c.in_ok-explanation_of.ensures are.0 are.2;
    }

pub returns-in_err-explanation_of-clause-asked : goal.returns-in_err-explanation_of-clause-asked
returns-in_err-explanation_of-clause-asked g c =
    let p = err_from_is_err_and c.from_residual.result c.from_residual.ensures.1 in
    rw (p.1, p.2) (asked_all c.args.shapes_text.now _ _ (c.in-Ok.ensures.asked c.args.data_text.now c.args.shapes_text.now c.readings_in_turn-readings.ensures.readings))
