use Rattle.rdf_model.specs.declared.term.Term.{Term}
use Rattle.shape_references.specs.Bundles.{IsName}
use Rattle.shape_references.specs.Siblings.{IsOnlyParent}
use Rattle.shape_references.proofs.SiblingValues.{both_some}
use Rattle.shape_sizes.specs.Sizes.{HasQualifiedCount}
use Rattle.shape_sizes.proofs.OwnTriples.{own_qualified}
use Rattle.shape_sizes.proofs.counted.stand_in_of.Goals as goal

pub returns-then-has_qualified_count : goal.returns-then-has_qualified_count
returns-then-has_qualified_count c =
    let counted = (own_qualified c.args.graph.now c.args.own.now c.args.node.now c.requires.members).0 (c.has_qualified_count.ensures.0 c.if-has_qualified_count.true) in
    both_some (HasQualifiedCount c.args.graph.now c.args.node.now) (λ x. (p : Term) × IsName c.args.parents.now p x × IsOnlyParent c.args.graph.now c.args.node.now p) c.in_ok-name.name counted c.in_ok-name.ensures
