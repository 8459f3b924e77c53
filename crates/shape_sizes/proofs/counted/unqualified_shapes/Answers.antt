use Rattle.std.proofs.Common.{◌∙◌, ◌++◌, List, ap, subst}
use Rattle.rdf_model.specs.declared.term.Term.{Term}
use Rattle.shape_properties.specs.declared.property.ShapeProperty.TheVariants as properties
use Rattle.shape_sizes.specs.Sizes.{AreMembersOf}
use Rattle.shape_sizes.proofs.OwnTriples.{own_three}
use Rattle.shape_sizes.proofs.counted.unqualified_shapes.Goals as goal

pub returns : goal.returns
returns c =
    let s = c.args.graph.now in
    let members = rw c.as_slice.ensures at c.in_ok-push_members_of.ensures in
    let heads = own_three s c.args.own.now c.args.node.now c.requires.members properties.And properties.Or properties.Xone c.in_ok-heads.heads c.in_ok-heads.ensures in
    let shapes = own_three s c.args.own.now c.args.node.now c.requires.members properties.Not properties.Node properties.Property c.in_ok-nodes.nodes c.in_ok-nodes.ensures in (
      members.0,
      subst (λ (hs : List Term). AreMembersOf s hs members.0) heads members.1,
      members.2 ∙ ap (λ (zs : List Term). zs ++ members.0) shapes,
    )
