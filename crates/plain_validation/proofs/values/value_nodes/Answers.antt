use Rattle.std.specs.List.{Contains}
use Rattle.rdf_model.specs.Terms.{term_cmp}
use Rattle.shape_model.specs.Readings.{ValueNode, reading}
use Rattle.shape_model.proofs.Listings.{listing_same}
use Rattle.plain_validation.proofs.values.value_nodes.Goals as goal

pub returns : goal.returns
returns c = listing_same term_cmp (Contains c.in_ok-found.found) (ValueNode c.args.graph.now (reading c.args.shapes.now c.args.shape.now) c.args.focus.now) c.in_ok-found.ensures.members c.in_ok-values.values c.in_ok-values.ensures
