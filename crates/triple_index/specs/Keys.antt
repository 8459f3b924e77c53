-- The numbers of triples in three orders.
use Rattle.std.specs.Prelude.{ℕ, List, map}
use Rattle.std.specs.declared.cmp.Ordering.{Ordering}
use Rattle.std.specs.Ordering.{nat_cmp, ordering_then}
use Rattle.rdf_model.specs.declared.ids.Ids.{Ids}
use Rattle.triple_index.specs.declared.key.Key.{Key}

abbrev pub key_cmp : Key → Key → Ordering
key_cmp a b = ordering_then (ordering_then (nat_cmp a.first b.first) (nat_cmp a.second b.second)) (nat_cmp a.third b.third)

-- triples by the numbers of subject, predicate, object
abbrev pub ids_cmp : Ids → Ids → Ordering
ids_cmp a b = ordering_then (ordering_then (nat_cmp a.subject b.subject) (nat_cmp a.predicate b.predicate)) (nat_cmp a.object b.object)

abbrev pub key_of : ℕ → ℕ → ℕ → Key
key_of x y z = record { first = x; second = y; third = z }

abbrev pub by_subject : Ids → Key
by_subject i = record { first = i.subject; second = i.predicate; third = i.object }

abbrev pub by_predicate : Ids → Key
by_predicate i = record { first = i.predicate; second = i.subject; third = i.object }

abbrev pub by_object : Ids → Key
by_object i = record { first = i.object; second = i.predicate; third = i.subject }

abbrev pub from_subject : Key → Ids
from_subject k = record { subject = k.first; predicate = k.second; object = k.third }

abbrev pub from_predicate : Key → Ids
from_predicate k = record { subject = k.second; predicate = k.first; object = k.third }

abbrev pub from_object : Key → Ids
from_object k = record { subject = k.third; predicate = k.second; object = k.first }

abbrev pub ids_of : List Key → List Ids
ids_of keys = map from_subject keys
