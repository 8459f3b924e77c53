use Rattle.std.proofs.Common.{◌≡◌, ℕ, refl, arith, inl, inr}
use Rattle.shape_model.specs.Vocabulary.{true_literal}
use Rattle.reference_totals.specs.Totals.{capped}
use Rattle.shape_properties.specs.declared.property.ShapeProperty.TheVariants as properties
use Rattle.shape_model.specs.Limits.{looks_limit}
use Rattle.shape_sizes.proofs.OwnTriples.{own_property}
use Rattle.shape_sizes.proofs.looks.look_weight.Goals as goal

none_counted : (most : ℕ) → 0 ≡ capped most 0
none_counted most = omega arith

pub returns-then-is_deactivated : goal.returns-then-is_deactivated
returns-then-is_deactivated c =
    let same = own_property c.args.graph.now c.triples_of-own.result.now c.args.node.now c.triples_of-own.ensures.members properties.Deactivated true_literal in
    (0, inl (same.0 (c.is_deactivated.ensures.0 c.if-is_deactivated.true), refl), none_counted looks_limit)

pub returns : goal.returns
returns c =
    let same = own_property c.args.graph.now c.triples_of-own.result.now c.args.node.now c.triples_of-own.ensures.members properties.Deactivated true_literal in
    let looks = c.in_ok-looks.ensures in (looks.0, inr (λ h. let k = c.is_deactivated.ensures.1 (same.1 h) in cc, looks.1), looks.2)
