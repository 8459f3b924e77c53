use Rattle.std.proofs.Common.{List, sym, subst}
use Rattle.collections.specs.Listings.{IsListing}
use Rattle.rdf_model.specs.declared.term.Term.{Term}
use Rattle.rdf_model.specs.Terms.{term_cmp}
use Rattle.reference_totals.specs.declared.place.WeightedPlace.{WeightedPlace}
use Rattle.shape_sizes.specs.PathLooks.{ArePathPlaces}
use Rattle.shape_properties.specs.Syntax.{IsShape}
use Rattle.shape_sizes.proofs.looks.all_look_places.Goals as goal

pub path_looks-requires-clause-places : goal.path_looks-requires-clause-places
path_looks-requires-clause-places c = subst (λ (ps : List WeightedPlace). ArePathPlaces c.args.graph.now ps) (sym c.as_slice.ensures) c.requires.survey.places

pub look_places-requires-clause-paths : goal.look_places-requires-clause-paths
look_places-requires-clause-paths c = rw c.most_looks.ensures.limit at c.in_ok-paths.ensures

pub look_places-requires-clause-nodes : goal.look_places-requires-clause-nodes
look_places-requires-clause-nodes c = subst (λ (ns : List Term). IsListing term_cmp (IsShape c.args.graph.now) ns) (sym c.as_slice-3.ensures.value) c.requires.survey.shapes
