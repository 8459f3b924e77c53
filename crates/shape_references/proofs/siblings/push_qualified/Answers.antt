use Rattle.std.proofs.Common.{◌≡◌, arith, refl, subst, sym}
use Rattle.rdf_model.specs.declared.term.Term.{Term}
use Rattle.rdf_model.specs.declared.triple.Triple.{Triple}
use Rattle.shape_model.specs.Vocabulary.{ShQualifiedValueShape}
use Rattle.shape_model.specs.ShapeSyntax.{HasProperty}
use Rattle.shape_syntax.specs.Gathering.{Gives}
use Rattle.shape_syntax.proofs.Loops.{gathered_none, gathered_next, gathered_all, gave, gave_as}
use Rattle.shape_references.proofs.SiblingValues.{values_give}
use Rattle.shape_references.proofs.siblings.push_qualified.Goals as goal

pub loop-triple-init : goal.loop-triple-init
loop-triple-init c = gathered_none (λ (v : Triple) (t : Term). v.object ≡ t) c.qualified_shapes-triple-items.result.now c.args.nodes.now

pub loop-triple-preserved : goal.loop-triple-preserved
loop-triple-preserved c = gathered_next (λ (v : Triple) (t : Term). v.object ≡ t) c.qualified_shapes-triple-items.result.now c.loop-triple.triple-index c.triple-item.result c.args.nodes.now c.loop-triple.nodes c.push.new.self (omega arith) c.triple-item.is c.loop-triple.invariant
    (gave (λ (t : Term). c.triple-item.result.object ≡ t) c.loop-triple.nodes c.push.new.self c.triple-item.result.object (rw c.in_ok-clone.ensures.cases at c.in_ok-push.ensures.ok) refl (λ x e. sym e))

pub returns : goal.returns
returns c = gave_as (Gives (λ (v : Triple) (t : Term). v.object ≡ t) c.qualified_shapes-triple-items.result.now) (HasProperty c.args.graph.now c.args.shape.now ShQualifiedValueShape) c.args.nodes.now c.loop-triple.nodes
    (λ t.
    let all = values_give c.args.graph.now c.qualified_shapes-triple-items.result.now c.args.shape.now ShQualifiedValueShape (λ (v u : Term). v ≡ u) c.qualified_shapes-triple-items.ensures t in (
      λ g. let h = all.0 g in subst (λ (x : Term). HasProperty c.args.graph.now c.args.shape.now ShQualifiedValueShape x) h.2 h.1,
      λ h. all.1 (t, h, refl),
    ))
    (gathered_all (λ (v : Triple) (t : Term). v.object ≡ t) c.qualified_shapes-triple-items.result.now c.loop-triple.triple-index c.args.nodes.now c.loop-triple.nodes (omega arith) c.loop-triple.invariant)
