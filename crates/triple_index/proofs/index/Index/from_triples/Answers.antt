use Rattle.std.proofs.Common.{List, subst, sym}
use Rattle.std.specs.List.{Contains}
use Rattle.collections.specs.Listings.{IsListing}
use Rattle.rdf_model.specs.declared.ids.Ids.{Ids}
use Rattle.triple_index.specs.Keys.{ids_cmp}
use Rattle.triple_index.proofs.Listed.{one_listed, ids_listed}
use Rattle.triple_index.proofs.index.Index.from_triples.Goals as goal

pub from_orders-requires : goal.from_orders-requires
from_orders-requires c = one_listed c.args.triples.now c.in_ok-subjects.subjects c.in_ok-predicates.predicates c.in_ok-objects.objects c.in_ok-subjects.ensures c.in_ok-predicates.ensures c.in_ok-objects.ensures

pub returns : goal.returns
returns c = subst (λ (ids : List Ids). IsListing ids_cmp (Contains c.args.triples.now) ids) (sym c.from_orders.ensures) (ids_listed c.args.triples.now c.in_ok-subjects.subjects c.in_ok-subjects.ensures)
