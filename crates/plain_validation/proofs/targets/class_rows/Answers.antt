use Rattle.plain_validation.proofs.AllResults.{implicit_found}
use Rattle.plain_validation.proofs.targets.class_rows.Goals as goal

pub returns : goal.returns
returns c = implicit_found c.args.graph.now c.args.shapes.now c.in_ok-kind.kind c.in_ok-classes.classes c.as_slice.result.now c.in_ok-rows.rows.items c.in_ok-kind.ensures c.in_ok-classes.ensures c.as_slice.ensures c.in_ok-rows.ensures
