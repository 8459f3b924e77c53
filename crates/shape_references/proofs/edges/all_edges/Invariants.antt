use Rattle.std.specs.Prelude.{◌↔◌}
use Rattle.std.specs.List.{Contains}
use Rattle.rdf_model.specs.declared.triple.Triple.{Triple}
use Rattle.shape_references.specs.Bundles.{IsEdge}
use Rattle.shape_references.proofs.edges.all_edges.Given as goal

abbrev pub invariant-loop-place : goal.invariant-loop-place
invariant-loop-place l = (t : Triple) → Contains l.edges t ↔ IsEdge l.nodes l.bundles l.place t
