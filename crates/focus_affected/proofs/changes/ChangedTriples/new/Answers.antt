use Rattle.std.proofs.Common.{◌∙◌, ℕ, List, map, ap, subst}
use Rattle.std.specs.List.{Contains, filter_map}
use Rattle.std.specs.Ordering.{nat_cmp}
use Rattle.collections.specs.Listings.{IsListing}
use Rattle.rdf_model.specs.declared.ids.Ids.{Ids}
use Rattle.focus_affected.specs.declared.plan.NumberedKind.TheVariants.{OutAny}
use Rattle.focus_affected.specs.Plans.{node_in}
use Rattle.focus_affected.proofs.changes.ChangedTriples.new.Goals as goal

pub invariant_of-result : goal.invariant_of-result
invariant_of-result c = (
  c.in_ok-triples.ensures.ordered,
  subst (λ (ns : List ℕ). IsListing nat_cmp (Contains ns) c.in_ok-subjects.subjects.items) (c.in_ok-nodes.ensures ∙ ap (λ (is : List Ids). filter_map (node_in OutAny) is) c.deref.ensures.value) c.in_ok-subjects.ensures,
  subst (λ (ns : List ℕ). IsListing nat_cmp (Contains ns) c.in_ok-predicates.predicates.items) (c.in_ok-predicates_of.ensures ∙ ap (λ (is : List Ids). map (λ (i : Ids). i.predicate) is) c.deref-2.ensures.value) c.in_ok-predicates.ensures,
)
