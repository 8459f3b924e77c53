use Rattle.std.proofs.Common.{ℕ, List, map, subst, sym}
use Rattle.std.specs.List.{Contains}
use Rattle.std.specs.Ordering.{nat_cmp}
use Rattle.collections.specs.Listings.{IsListing}
use Rattle.rdf_model.specs.declared.ids.Ids.{Ids}
use Rattle.focus_affected.proofs.changes.ChangedTriples.predicates.Goals as goal

pub returns : goal.returns
returns c =
    let listed = subst (λ (all : List Ids). IsListing nat_cmp (Contains (map (λ (i : Ids). i.predicate) all)) c.self.inside.predicates.items) c.self.view_is c.self.invariant.2 in
    subst (λ (ps : List ℕ). IsListing nat_cmp (Contains (map (λ (i : Ids). i.predicate) c.args.self.now)) ps) (sym c.deref.ensures.value) listed
