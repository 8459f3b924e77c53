use Rattle.std.proofs.Common.{refl, subst, sym}
use Rattle.rdf_model.specs.declared.term.Term.{Term}
use Rattle.shape_syntax.proofs.Loops.{gave, gave_none}
use Rattle.shape_properties.specs.OfProperties.{IsShapeAt, SaysShape}
use Rattle.shape_properties.proofs.shapes.push_shape.Goals as goal

pub returns-then-shape : goal.returns-then-shape
returns-then-shape c = gave (IsShapeAt c.args.graph.now c.args.node.now) c.args.nodes.now c.push.new.self c.args.node.now (rw c.in_ok-clone.ensures.cases at c.in_ok-push.ensures.ok) (refl, c.in_ok-shape.ensures.0 c.if-shape.true) (λ x h. sym h.0)

pub returns : goal.returns
returns c = gave_none (IsShapeAt c.args.graph.now c.args.node.now) c.args.nodes.now (λ n h. let k = c.in_ok-shape.ensures.1 (subst (λ (m : Term). SaysShape c.args.graph.now m) (sym h.0) h.1) in cc)
