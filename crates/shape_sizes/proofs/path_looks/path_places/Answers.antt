use Rattle.std.proofs.Common.{List, sym, subst}
use Rattle.std.specs.Prelude.{◌↔◌}
use Rattle.std.specs.List.{Contains}
use Rattle.rdf_model.specs.declared.term.Term.{Term}
use Rattle.shape_sizes.specs.PathLooks.{MayBePath}
use Rattle.shape_sizes.proofs.path_looks.path_places.Goals as goal

pub places_of-requires-clause-nodes : goal.places_of-requires-clause-nodes
places_of-requires-clause-nodes c = subst (λ (ns : List Term). (n : Term) → Contains ns n ↔ MayBePath c.args.graph.now n) (sym c.as_slice.ensures.value) c.in_ok-nodes.ensures
