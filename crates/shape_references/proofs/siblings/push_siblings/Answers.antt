use Rattle.shape_model.specs.Readings.{Sibling}
use Rattle.shape_syntax.proofs.Loops.{gave_as, gave_none}
use Rattle.shape_references.specs.Siblings.{IsBeside}
use Rattle.shape_references.proofs.SiblingValues.{sibling_by}
use Rattle.shape_references.proofs.siblings.push_siblings.Goals as goal

pub returns-then-may_have_siblings : goal.returns-then-may_have_siblings
returns-then-may_have_siblings c = gave_as (IsBeside c.args.graph.now c.args.shape.now) (Sibling c.args.graph.now c.args.shape.now) c.args.nodes.now c.push_beside.new.nodes
    (λ t. let same = sibling_by c.args.graph.now c.args.shape.now t in (λ h. same.0 (c.may_have_siblings.ensures.0 c.if-may_have_siblings.true, h), λ h. (same.1 h).1))
    c.in_ok-push_beside.ensures

pub returns : goal.returns
returns c = gave_none (Sibling c.args.graph.now c.args.shape.now) c.args.nodes.now (λ t h. let k = c.may_have_siblings.ensures.1 ((sibling_by c.args.graph.now c.args.shape.now t).1 h).0 in cc)
