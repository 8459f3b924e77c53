use Rattle.plain_components.proofs.Closings.{among_is}
use Rattle.shape_model.specs.ShapeSyntax.{HasProperty}
use Rattle.shape_model.specs.Vocabulary.{true_literal, ShQualifiedValueShapesDisjoint}
use Rattle.plain_components.proofs.qualified.is_disjoint.Goals as goal

pub returns : goal.returns
returns c =
    among_is (HasProperty c.args.shapes.now c.args.shape.now ShQualifiedValueShapesDisjoint) c.in_ok-found.found c.as_slice.result.now c.is_among.result c.in_ok-yes.yes true_literal c.in_ok-found.ensures c.as_slice.ensures c.in_ok-yes.ensures c.is_among.ensures
