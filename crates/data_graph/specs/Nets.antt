-- The triples of changes that are in exactly one of two graphs, by terms and by number.
use Rattle.std.specs.Prelude.{Bool, not, ◌&&◌, ◌||◌, List, map}
use Rattle.std.specs.List.{filter}
use Rattle.collections.specs.Ordered.{has_item}
use Rattle.rdf_model.specs.declared.change.Change.{Change}
use Rattle.rdf_model.specs.declared.ids.Ids.{Ids}
use Rattle.rdf_model.specs.declared.triple.Triple.{Triple}
use Rattle.rdf_model.specs.Terms.{triple_cmp}
use Rattle.store_model.specs.Store.{changed_triple}
use Rattle.triple_index.specs.declared.change.NumberedChange.{NumberedChange}
use Rattle.triple_index.specs.declared.change.NumberedChange.TheVariants.{Add, Remove}
use Rattle.triple_index.specs.Keys.{ids_cmp}

abbrev pub is_in_one : List Triple → List Triple → Triple → Bool
is_in_one g h t = (has_item triple_cmp t g && not (has_item triple_cmp t h)) || (has_item triple_cmp t h && not (has_item triple_cmp t g))

abbrev pub in_one : List Triple → List Triple → List Change → List Triple
in_one g h net = filter (is_in_one g h) (map changed_triple net)

-- the numbers of the triple that a change adds or removes, and those that are in exactly one of two sets
abbrev pub ids_changed : NumberedChange → Ids
ids_changed (Add i) = i
ids_changed (Remove i) = i

abbrev pub is_in_one_set : List Ids → List Ids → Ids → Bool
is_in_one_set x y i = (has_item ids_cmp i x && not (has_item ids_cmp i y)) || (has_item ids_cmp i y && not (has_item ids_cmp i x))

abbrev pub in_one_set : List Ids → List Ids → List NumberedChange → List Ids
in_one_set x y changes = filter (is_in_one_set x y) (map ids_changed changes)
