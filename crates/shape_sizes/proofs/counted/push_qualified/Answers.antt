use Rattle.std.proofs.Common.{◌∙◌, ◌++◌, List, refl, ap, append_assoc, inl, inr}
use Rattle.rdf_model.specs.declared.term.Term.{Term}
use Rattle.shape_properties.specs.declared.property.ShapeProperty.{ShapeProperty}
use Rattle.shape_properties.specs.declared.property.ShapeProperty.TheVariants as properties
use Rattle.shape_sizes.specs.Sizes.{AreQualified, values}
use Rattle.shape_sizes.proofs.Gathered.{added_none}
use Rattle.shape_sizes.proofs.OwnTriples.{own_qualified, own_values}
use Rattle.shape_sizes.proofs.counted.push_qualified.Goals as goal

pub returns-then-has_qualified_count : goal.returns-then-has_qualified_count
returns-then-has_qualified_count c =
    let s = c.args.graph.now in
    let shapes = values s c.args.node.now properties.QualifiedValueShape in
    let counted = (own_qualified s c.args.own.now c.args.node.now c.requires.members).0 (c.has_qualified_count.ensures.0 c.if-has_qualified_count.true) in
    let added = c.in_ok-push_values.ensures ∙ ap (λ (of : ShapeProperty → List Term). c.args.nodes.now ++ of properties.QualifiedValueShape) (own_values s c.args.own.now c.args.node.now c.requires.members) in
    let copied = rw c.as_slice.ensures.value at c.in_ok-push_copies.ensures in (
      shapes ++ c.in_ok-siblings.siblings.items,
      inl (counted, (c.in_ok-siblings.siblings.items, c.in_ok-siblings.ensures, refl)),
      copied ∙ ap (λ (zs : List Term). zs ++ c.in_ok-siblings.siblings.items) added ∙ append_assoc c.args.nodes.now shapes c.in_ok-siblings.siblings.items,
    )

pub returns : goal.returns
returns c =
    let same = own_qualified c.args.graph.now c.args.own.now c.args.node.now c.requires.members in
    added_none (AreQualified c.args.graph.now c.args.node.now) c.args.nodes.now (inr (λ h. let k = c.has_qualified_count.ensures.1 (same.1 h) in cc, refl))
