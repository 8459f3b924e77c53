use Rattle.std.proofs.Common.{inl, inr}
use Rattle.shape_model.specs.Vocabulary.{true_literal}
use Rattle.shape_properties.specs.declared.property.ShapeProperty.TheVariants as properties
use Rattle.shape_sizes.proofs.OwnTriples.{own_property}
use Rattle.shape_sizes.proofs.counted.referred_shapes.Goals as goal

pub returns-then-is_deactivated : goal.returns-then-is_deactivated
returns-then-is_deactivated c =
    let same = own_property c.args.graph.now c.triples_of-own.result.now c.args.node.now c.triples_of-own.ensures.members properties.Deactivated true_literal in
    inl (same.0 (c.is_deactivated.ensures.0 c.if-is_deactivated.true), c.new.ensures)

pub returns : goal.returns
returns c =
    let same = own_property c.args.graph.now c.triples_of-own.result.now c.args.node.now c.triples_of-own.ensures.members properties.Deactivated true_literal in
    inr (λ h. let k = c.is_deactivated.ensures.1 (same.1 h) in cc, c.in_ok-nodes.ensures)
