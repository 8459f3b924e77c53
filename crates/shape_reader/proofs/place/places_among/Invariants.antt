use Rattle.std.proofs.Common.{ℕ, [], take}
use Rattle.std.specs.Ordering.{nat_cmp}
use Rattle.collections.specs.Ordered.{IsAscending}
use Rattle.rdf_model.specs.declared.term.Term.{Term}
use Rattle.rdf_model.specs.Terms.{term_cmp}
use Rattle.shape_syntax.specs.Gathering.{HasGathered}
use Rattle.shape_reader.specs.Parts.{IsPlace}
use Rattle.shape_reader.proofs.place.places_among.Given as goal

abbrev pub invariant-loop-term : goal.invariant-loop-term
invariant-loop-term l = record {
  found : HasGathered (λ (t : Term) (k : ℕ). IsPlace l.shape.nodes k t) (take l.term-index l.terms) [] l.places;
  rising : IsAscending term_cmp l.terms → IsAscending nat_cmp l.places;
}
