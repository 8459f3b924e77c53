use Rattle.std.proofs.lemmas.Result.{err_from_is_err_and}
use Rattle.file_validation.proofs.Asks.{asked_all}
use Rattle.file_validation.proofs.validating.validate.Goals as goal

pub returns-clause-answer : goal.returns-clause-answer
returns-clause-answer g c =
    let are = c.in-Ok.ensures.answer c.args.data_text.items c.args.shapes_text.items (rw c.deref-2.ensures.value at rw c.deref.ensures.value at c.readings_by_threads-readings.ensures.readings) in
    record {
      graph = are.0;
      shapes_graph = c.in-Ok.both.1;
      data_read = are.1.data_read;
      shapes_read = are.1.shapes_read;
      well_formed = are.1.well_formed;
      reported = c.in_ok-validation_of.ensures are.0 are.2;
    }

pub returns-in_err-validation_of-clause-asked : goal.returns-in_err-validation_of-clause-asked
returns-in_err-validation_of-clause-asked g c =
    let p = err_from_is_err_and c.from_residual.result c.from_residual.ensures.1 in
    rw (p.1, p.2) (asked_all c.args.shapes_text.items _ _ (c.in-Ok.ensures.asked c.args.data_text.items c.args.shapes_text.items (rw c.deref-2.ensures.value at rw c.deref.ensures.value at c.readings_by_threads-readings.ensures.readings)))

pub returns-clause-asked : goal.returns-clause-asked
returns-clause-asked g c = c.in-Ok.ensures.asked c.args.data_text.items c.args.shapes_text.items (rw c.deref-2.ensures.value at rw c.deref.ensures.value at c.readings_by_threads-readings.ensures.readings)
