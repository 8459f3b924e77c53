use Rattle.shape_properties.specs.declared.property.ShapeProperty.TheVariants as vocabulary
use Rattle.shape_reader.proofs.Gathered.{values_placed}
use Rattle.shape_reader.proofs.values.properties_of.Goals as goal

pub returns : goal.returns
returns c = record {
  ascending = (rw c.as_slice.ensures at c.in_ok-places.ensures.rising) c.in_ok-found.ensures.ascending;
  members = values_placed c.args.shape.now.graph c.args.shape.now.nodes c.args.shape.now.node vocabulary.Property c.in_ok-found.found c.in_ok-places.places c.in_ok-found.ensures.members (rw c.as_slice.ensures at c.in_ok-places.ensures.found);
}
