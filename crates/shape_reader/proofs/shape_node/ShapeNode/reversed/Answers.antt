use Rattle.std.proofs.Common.{subst}
use Rattle.collections.specs.Listings.{IsListing}
use Rattle.rdf_model.specs.Terms.{triple_cmp}
use Rattle.shape_references.specs.Siblings.{IsReversed}
use Rattle.shape_reader.specs.Declarations.{Declaration}
use Rattle.shape_reader.proofs.shape_node.ShapeNode.reversed.Goals as goal

pub returns : goal.returns
returns c = rw c.as_slice.ensures.value (subst (λ (d : Declaration). IsListing triple_cmp (IsReversed d.graph) c.self.inside.survey.now.reversed.items) c.self.view_is c.self.invariant.survey.reversed)
