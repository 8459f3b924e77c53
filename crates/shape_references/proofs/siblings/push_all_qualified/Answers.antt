use Rattle.std.proofs.Common.{arith}
use Rattle.rdf_model.specs.declared.term.Term.{Term}
use Rattle.rdf_model.specs.declared.triple.Triple.{Triple}
use Rattle.shape_model.specs.Vocabulary.{ShProperty, ShQualifiedValueShape}
use Rattle.shape_model.specs.ShapeSyntax.{HasProperty}
use Rattle.shape_syntax.specs.Gathering.{Gives}
use Rattle.shape_syntax.proofs.Loops.{gathered_none, gathered_next, gathered_all, gave_as}
use Rattle.shape_references.specs.Siblings.{IsQualifiedUnder}
use Rattle.shape_references.proofs.SiblingValues.{values_give}
use Rattle.shape_references.proofs.siblings.push_all_qualified.Goals as goal

pub loop-triple-init : goal.loop-triple-init
loop-triple-init c = gathered_none (λ (v : Triple) (t : Term). HasProperty c.args.graph.now v.object ShQualifiedValueShape t) c.properties-triple-items.result.now c.args.nodes.now

pub loop-triple-preserved : goal.loop-triple-preserved
loop-triple-preserved c = gathered_next (λ (v : Triple) (t : Term). HasProperty c.args.graph.now v.object ShQualifiedValueShape t) c.properties-triple-items.result.now c.loop-triple.triple-index c.triple-item.result c.args.nodes.now c.loop-triple.nodes c.push_qualified.new.nodes (omega arith) c.triple-item.is c.loop-triple.invariant c.in_ok-push_qualified.ensures

pub returns : goal.returns
returns c = gave_as (Gives (λ (v : Triple) (t : Term). HasProperty c.args.graph.now v.object ShQualifiedValueShape t) c.properties-triple-items.result.now) (IsQualifiedUnder c.args.graph.now c.args.parent.now) c.args.nodes.now c.loop-triple.nodes
    (values_give c.args.graph.now c.properties-triple-items.result.now c.args.parent.now ShProperty (λ (v t : Term). HasProperty c.args.graph.now v ShQualifiedValueShape t) c.properties-triple-items.ensures)
    (gathered_all (λ (v : Triple) (t : Term). HasProperty c.args.graph.now v.object ShQualifiedValueShape t) c.properties-triple-items.result.now c.loop-triple.triple-index c.args.nodes.now c.loop-triple.nodes (omega arith) c.loop-triple.invariant)
