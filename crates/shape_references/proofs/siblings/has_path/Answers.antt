use Rattle.shape_model.specs.Vocabulary.{ShPath}
use Rattle.shape_syntax.proofs.Loops.{some_item}
use Rattle.shape_references.proofs.SiblingValues.{in_values, value_in}
use Rattle.shape_references.proofs.siblings.has_path.Goals as goal

pub returns : goal.returns
returns c =
    let some = some_item c.paths-found.result.now c.is_empty.result c.is_empty.ensures in (
      λ h. let t = some.0 h in (t.0.object, value_in c.args.graph.now c.paths-found.result.now c.args.shape.now ShPath c.paths-found.ensures t.0 t.1),
      λ h. some.1 (_, in_values c.args.graph.now c.paths-found.result.now c.args.shape.now ShPath c.paths-found.ensures h.0 h.1),
    )
