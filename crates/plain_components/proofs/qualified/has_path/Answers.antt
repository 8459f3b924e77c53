use Rattle.shape_model.specs.ShapeSyntax.{HasProperty}
use Rattle.shape_model.specs.Vocabulary.{ShPath}
use Rattle.plain_components.proofs.Closings.{some_found}
use Rattle.plain_components.proofs.qualified.has_path.Goals as goal

pub returns : goal.returns
returns c = some_found (HasProperty c.args.shapes.now c.args.shape.now ShPath) c.in_ok-paths.paths c.is_empty.result c.in_ok-paths.ensures c.is_empty.ensures
