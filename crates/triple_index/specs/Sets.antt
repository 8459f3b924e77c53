-- What the three orders of an index have in common.
use Rattle.std.specs.Prelude.{◌↔◌, List}
use Rattle.std.specs.List.{Contains}
use Rattle.rdf_model.specs.declared.ids.Ids.{Ids}
use Rattle.collections.specs.Ordered.{IsAscending}
use Rattle.triple_index.specs.declared.key.Key.{Key}
use Rattle.triple_index.specs.Keys.{key_cmp, by_subject, by_predicate, by_object}

-- each ascends strictly, and they hold the same triples
pub record AreOne (subjects predicates objects : List Key) : Type 0 where
  pub first : IsAscending key_cmp subjects
  pub second : IsAscending key_cmp predicates
  pub third : IsAscending key_cmp objects
  pub in_second : (t : Ids) → Contains subjects (by_subject t) ↔ Contains predicates (by_predicate t)
  pub in_third : (t : Ids) → Contains subjects (by_subject t) ↔ Contains objects (by_object t)
