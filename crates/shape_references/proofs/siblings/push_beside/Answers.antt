use Rattle.std.proofs.Common.{arith}
use Rattle.rdf_model.specs.declared.term.Term.{Term}
use Rattle.rdf_model.specs.declared.triple.Triple.{Triple}
use Rattle.shape_model.specs.Vocabulary.{ShProperty}
use Rattle.shape_syntax.specs.Gathering.{Gives}
use Rattle.shape_syntax.proofs.Loops.{gathered_none, gathered_next, gathered_all, gave_as}
use Rattle.shape_references.specs.Siblings.{IsBeside, IsUnder}
use Rattle.shape_references.proofs.SiblingValues.{beside_by, values_give}
use Rattle.shape_references.proofs.siblings.push_beside.Goals as goal

pub loop-triple-init : goal.loop-triple-init
loop-triple-init c = gathered_none (λ (v : Triple) (t : Term). IsUnder c.args.graph.now c.args.shape.now v.object t) c.properties_in-triple-items.result.now c.args.nodes.now

pub loop-triple-preserved : goal.loop-triple-preserved
loop-triple-preserved c = gathered_next (λ (v : Triple) (t : Term). IsUnder c.args.graph.now c.args.shape.now v.object t) c.properties_in-triple-items.result.now c.loop-triple.triple-index c.triple-item.result c.args.nodes.now c.loop-triple.nodes c.push_under.new.nodes (omega arith) c.triple-item.is c.loop-triple.invariant c.in_ok-push_under.ensures

pub returns : goal.returns
returns c = gave_as (Gives (λ (v : Triple) (t : Term). IsUnder c.args.graph.now c.args.shape.now v.object t) c.properties_in-triple-items.result.now) (IsBeside c.args.graph.now c.args.shape.now) c.args.nodes.now c.loop-triple.nodes
    (λ t.
    let all = values_give c.args.reversed.now c.properties_in-triple-items.result.now c.args.shape.now ShProperty (IsUnder c.args.graph.now c.args.shape.now) c.properties_in-triple-items.ensures t in
    let same = beside_by c.args.graph.now c.args.reversed.now c.args.shape.now c.requires.reversed t in
    (λ g. same.0 (all.0 g), λ h. all.1 (same.1 h)))
    (gathered_all (λ (v : Triple) (t : Term). IsUnder c.args.graph.now c.args.shape.now v.object t) c.properties_in-triple-items.result.now c.loop-triple.triple-index c.args.nodes.now c.loop-triple.nodes (omega arith) c.loop-triple.invariant)
