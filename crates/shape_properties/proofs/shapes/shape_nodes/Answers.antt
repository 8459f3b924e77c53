use Rattle.std.specs.List.{Contains}
use Rattle.rdf_model.specs.declared.term.Term.{Term}
use Rattle.rdf_model.specs.Terms.{term_cmp}
use Rattle.shape_model.proofs.Listings.{listing_same}
use Rattle.shape_properties.specs.Syntax.{IsShape}
use Rattle.shape_properties.proofs.shapes.shape_nodes.Goals as goal

pub returns : goal.returns
returns c = listing_same term_cmp (λ (n : Term). Contains c.in_ok-nodes.nodes n) (IsShape c.args.graph.now) c.in_ok-nodes.ensures c.in_ok-sorted.sorted.items (rw c.into_vec.ensures at c.in_ok-sorted.ensures)
