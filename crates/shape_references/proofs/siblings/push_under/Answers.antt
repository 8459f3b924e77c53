use Rattle.std.proofs.Common.{arith}
use Rattle.rdf_model.specs.declared.term.Term.{Term}
use Rattle.rdf_model.specs.declared.triple.Triple.{Triple}
use Rattle.shape_model.specs.Vocabulary.{ShProperty}
use Rattle.shape_syntax.specs.Gathering.{Gives}
use Rattle.shape_syntax.proofs.Loops.{gathered_none, gathered_next, gathered_all, gave_as}
use Rattle.shape_references.specs.Siblings.{IsOfOther, IsUnder}
use Rattle.shape_references.proofs.SiblingValues.{values_give}
use Rattle.shape_references.proofs.siblings.push_under.Goals as goal

pub loop-triple-init : goal.loop-triple-init
loop-triple-init c = gathered_none (λ (v : Triple) (t : Term). IsOfOther c.args.graph.now c.args.shape.now v.object t) c.properties-triple-items.result.now c.args.nodes.now

pub loop-triple-preserved : goal.loop-triple-preserved
loop-triple-preserved c = gathered_next (λ (v : Triple) (t : Term). IsOfOther c.args.graph.now c.args.shape.now v.object t) c.properties-triple-items.result.now c.loop-triple.triple-index c.triple-item.result c.args.nodes.now c.loop-triple.nodes c.push_of_other.new.nodes (omega arith) c.triple-item.is c.loop-triple.invariant c.in_ok-push_of_other.ensures

pub returns : goal.returns
returns c = gave_as (Gives (λ (v : Triple) (t : Term). IsOfOther c.args.graph.now c.args.shape.now v.object t) c.properties-triple-items.result.now) (IsUnder c.args.graph.now c.args.shape.now c.args.parent.now) c.args.nodes.now c.loop-triple.nodes
    (values_give c.args.graph.now c.properties-triple-items.result.now c.args.parent.now ShProperty (IsOfOther c.args.graph.now c.args.shape.now) c.properties-triple-items.ensures)
    (gathered_all (λ (v : Triple) (t : Term). IsOfOther c.args.graph.now c.args.shape.now v.object t) c.properties-triple-items.result.now c.loop-triple.triple-index c.args.nodes.now c.loop-triple.nodes (omega arith) c.loop-triple.invariant)
