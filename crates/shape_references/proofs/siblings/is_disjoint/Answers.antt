use Rattle.shape_model.specs.Vocabulary.{ShQualifiedValueShapesDisjoint, true_literal}
use Rattle.shape_references.proofs.SiblingValues.{one_value}
use Rattle.shape_references.proofs.siblings.is_disjoint.Goals as goal

pub returns : goal.returns
returns c =
    let one = one_value c.args.graph.now c.disjointness.result.now c.args.shape.now ShQualifiedValueShapesDisjoint true_literal c.disjointness.ensures in
    (λ h. one.0 (c.one_is_true.ensures.0 h), λ h. c.one_is_true.ensures.1 (one.1 h))
