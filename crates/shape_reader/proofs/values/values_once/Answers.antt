use Rattle.std.specs.List.{Contains}
use Rattle.rdf_model.specs.declared.term.Term.{Term}
use Rattle.rdf_model.specs.Terms.{term_cmp}
use Rattle.shape_model.proofs.Listings.{listing_same}
use Rattle.shape_properties.specs.Syntax.{HasProperty}
use Rattle.shape_reader.proofs.values.values_once.Goals as goal

pub returns : goal.returns
returns c = rw c.from_vec.ensures (listing_same term_cmp (λ (v : Term). Contains c.in_ok-found.found v) (HasProperty c.args.shape.now.graph c.args.shape.now.node c.args.property) c.in_ok-found.ensures c.in_ok-sorted.sorted.items (rw c.into_vec.ensures at c.in_ok-sorted.ensures))
