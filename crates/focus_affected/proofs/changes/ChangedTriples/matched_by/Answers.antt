use Rattle.std.proofs.Common.{◌≡◌, ℕ, List, subst}
use Rattle.std.specs.Prelude.{◌↔◌}
use Rattle.std.specs.List.{Contains, filter_map}
use Rattle.std.specs.Ordering.{nat_cmp}
use Rattle.collections.specs.Listings.{IsListing}
use Rattle.rdf_model.specs.declared.ids.Ids.{Ids}
use Rattle.focus_affected.specs.Plans.{node_in}
use Rattle.focus_affected.proofs.Keys.{run_nodes}
use Rattle.focus_affected.proofs.changes.ChangedTriples.matched_by.Goals as goal

pub returns : goal.returns
returns c =
    let kind = c.args.kind in
    let ids = c.self.inside.triples.items in
    let run = c.with_predicate.result.now in
    let is : (i : Ids) → Contains run i ↔ (Contains ids i × (i.predicate ≡ c.args.predicate)) =
    λ i. subst (λ (all : List Ids). Contains run i ↔ (Contains all i × (i.predicate ≡ c.args.predicate))) c.deref.ensures.value (c.with_predicate.ensures i) in
    let listed = subst (λ (nodes : List ℕ). IsListing nat_cmp (Contains nodes) c.in_ok-sorted_once.field-0.items) c.in_ok-nodes.ensures c.in_ok-sorted_once.ensures in
    let inside : IsListing nat_cmp (Contains (filter_map (node_in kind) ids)) c.in_ok-sorted_once.field-0.items = run_nodes kind c.args.predicate c.requires ids run is c.in_ok-sorted_once.field-0.items listed in
    subst (λ (all : List Ids). IsListing nat_cmp (Contains (filter_map (node_in kind) all)) c.in_ok-sorted_once.field-0.items) c.self.view_is inside
