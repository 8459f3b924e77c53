use Rattle.std.proofs.Common.{◌≡◌, List, sym, subst}
use Rattle.collections.specs.Listings.{IsListing}
use Rattle.rdf_model.specs.declared.term.Term.{Term}
use Rattle.rdf_model.specs.Terms.{term_cmp}
use Rattle.shape_properties.specs.Syntax.{IsShape}
use Rattle.shape_sizes.proofs.StandIns.{with_stand_ins}
use Rattle.shape_sizes.proofs.sizes.all_places.Goals as goal

pub places_of-requires-clause-reversed : goal.places_of-requires-clause-reversed
places_of-requires-clause-reversed c = rw c.as_slice.ensures.value c.requires.survey.reversed

pub places_of-requires-clause-nodes : goal.places_of-requires-clause-nodes
places_of-requires-clause-nodes c = subst (λ (ns : List Term). IsListing term_cmp (IsShape c.args.graph.now) ns) (sym c.as_slice-2.ensures.value) c.requires.survey.shapes

pub returns : goal.returns
returns c = with_stand_ins c.args.graph.now (λ m w. w ≡ 1) c.args.parents.now c.in_ok-places.places c.push_stand_ins.new.places c.requires.parents c.in_ok-places.ensures c.in_ok-push_stand_ins.ensures
