use Rattle.plain_validation.proofs.AllResults.{class_found}
use Rattle.plain_validation.proofs.targets.rows_of_class.Goals as goal

pub returns : goal.returns
returns c = class_found c.args.graph.now c.args.shapes.now c.args.class.now c.in_ok-targets.targets c.as_slice.result.now c.in_ok-rows.rows.items c.in_ok-targets.ensures c.as_slice.ensures c.in_ok-rows.ensures
