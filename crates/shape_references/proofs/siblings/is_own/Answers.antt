use Rattle.shape_model.specs.Vocabulary.{ShQualifiedValueShape}
use Rattle.shape_references.proofs.SiblingValues.{one_value}
use Rattle.shape_references.proofs.siblings.is_own.Goals as goal

pub returns : goal.returns
returns c =
    let one = one_value c.args.graph.now c.qualified_shapes.result.now c.args.shape.now ShQualifiedValueShape c.args.value.now c.qualified_shapes.ensures in
    (λ h. one.0 (c.has_object.ensures.0 h), λ h. c.has_object.ensures.1 (one.1 h))
