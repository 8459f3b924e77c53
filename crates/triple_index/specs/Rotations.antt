-- Triples as keys in one of the orders.
use Rattle.std.specs.Prelude.{List, map}
use Rattle.std.specs.List.{Contains}
use Rattle.collections.specs.Listings.{IsListing}
use Rattle.rdf_model.specs.declared.ids.Ids.{Ids}
use Rattle.triple_index.specs.declared.order.Order.{Order}
use Rattle.triple_index.specs.declared.order.Order.TheVariants.{Subjects, Predicates, Objects}
use Rattle.triple_index.specs.declared.key.Key.{Key}
use Rattle.triple_index.specs.Keys.{key_cmp, by_subject, by_predicate, by_object, from_subject, from_predicate, from_object}

-- the key of a triple in an order, and the triple of a key
abbrev pub by_order : Order → Ids → Key
by_order Subjects t = by_subject t
by_order Predicates t = by_predicate t
by_order Objects t = by_object t

abbrev pub from_order : Order → Key → Ids
from_order Subjects k = from_subject k
from_order Predicates k = from_predicate k
from_order Objects k = from_object k

-- the keys of the triples in the order, each once, ascending
abbrev pub AreKeysIn : Order → List Ids → List Key → Type 0
AreKeysIn order ids keys = IsListing key_cmp (Contains (map (by_order order) ids)) keys
