use Rattle.shape_references.specs.Siblings.{HasOneParent, MayHaveSiblings}
use Rattle.shape_references.proofs.SiblingValues.{both_some}
use Rattle.shape_references.proofs.siblings.only_parent.Goals as goal

pub returns-then-may_have_siblings : goal.returns-then-may_have_siblings
returns-then-may_have_siblings c = both_some (MayHaveSiblings c.args.graph.now c.args.shape.now) (λ parent. HasOneParent c.args.graph.now c.args.shape.now parent.now) c.parent_of.result (c.may_have_siblings.ensures.0 c.if-may_have_siblings.true) c.parent_of.ensures
