use Rattle.std.proofs.Common.{List, IfOk, subst, sym}
use Rattle.std.specs.List.{Contains}
use Rattle.collections.specs.Listings.{IsListing}
use Rattle.rdf_model.specs.declared.ids.Ids.{Ids}
use Rattle.triple_index.specs.declared.order.Order.TheVariants.{Subjects, Predicates, Objects}
use Rattle.triple_index.specs.Keys.{ids_cmp}
use Rattle.triple_index.specs.Rotations.{AreKeysIn}
use Rattle.triple_index.proofs.Listed.{ids_listed, one_listed}
use Rattle.file_validation.proofs.indexing.index_by_threads.Goals as goal

pub from_orders-requires : goal.from_orders-requires
from_orders-requires g c =
    let ids = c.args.triples.now in
    let found = c.join-subjects.ensures in
    one_listed ids c.in_ok-subjects.subjects c.in_ok-predicates.predicates c.in_ok-objects.objects
    (subst (λ r. IfOk r (AreKeysIn Subjects ids)) c.in_ok-subjects.was found.first)
    (subst (λ r. IfOk r (AreKeysIn Predicates ids)) c.in_ok-predicates.was found.second.0)
    (subst (λ r. IfOk r (AreKeysIn Objects ids)) c.in_ok-objects.was found.second.1)

pub returns : goal.returns
returns g c =
    let ids = c.args.triples.now in
    subst (λ (found : List Ids). IsListing ids_cmp (Contains ids) found) (sym c.from_orders.ensures)
    (ids_listed ids c.in_ok-subjects.subjects (subst (λ r. IfOk r (AreKeysIn Subjects ids)) c.in_ok-subjects.was c.join-subjects.ensures.first))
