use Rattle.std.proofs.Common.{List, subst, sym}
use Rattle.std.specs.List.{Contains}
use Rattle.collections.specs.Listings.{IsListing}
use Rattle.rdf_model.specs.declared.ids.Ids.{Ids}
use Rattle.triple_index.specs.Keys.{ids_cmp}
use Rattle.triple_index.proofs.Listed.{one_listed, ids_listed}
use Rattle.triple_index.proofs.index.Index.from_list.Goals as goal

pub from_orders-requires : goal.from_orders-requires
from_orders-requires c =
    let subjects = rw c.deref.ensures.value at c.in_ok-subjects.ensures in
    let predicates = rw c.deref-2.ensures.value at c.in_ok-predicates.ensures in
    one_listed c.args.triples.items c.in_ok-subjects.subjects c.in_ok-predicates.predicates c.in_ok-objects.objects subjects predicates c.in_ok-objects.ensures

pub returns : goal.returns
returns c =
    let subjects = rw c.deref.ensures.value at c.in_ok-subjects.ensures in
    subst (λ (ids : List Ids). IsListing ids_cmp (Contains c.args.triples.items) ids) (sym c.from_orders.ensures) (ids_listed c.args.triples.items c.in_ok-subjects.subjects subjects)
