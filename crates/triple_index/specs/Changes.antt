-- Graphs by numbers, as ascending lists, and what changes make of them.
use Rattle.std.specs.Prelude.{◌<◌, List, [], ◌∷◌, length}
use Rattle.rdf_model.specs.declared.change.Change.{Change}
use Rattle.rdf_model.specs.declared.change.Change.TheVariants as changes
use Rattle.rdf_model.specs.declared.ids.Ids.{Ids}
use Rattle.rdf_model.specs.declared.term.Term.{Term}
use Rattle.rdf_model.specs.Numbers.{triple_at}
use Rattle.triple_index.specs.declared.change.NumberedChange.{NumberedChange}
use Rattle.triple_index.specs.declared.change.NumberedChange.TheVariants.{Add, Remove}
use Rattle.triple_index.specs.Keys.{ids_cmp}
use Rattle.collections.specs.Ordered.{with_item, without_item}

-- the graph after one change, and after each in turn
abbrev pub changed_ids : List Ids → NumberedChange → List Ids
changed_ids ids (Add t) = with_item ids_cmp t ids
changed_ids ids (Remove t) = without_item ids_cmp t ids

abbrev pub after_ids : List Ids → List NumberedChange → List Ids
after_ids ids [] = ids
after_ids ids (c ∷ cs) = after_ids (changed_ids ids c) cs

-- each number of a change has a term, and the change of terms that it stands for
abbrev pub IsNumbered : List Term → Ids → Type 0
IsNumbered terms i = (i.subject < length terms) × (i.predicate < length terms) × (i.object < length terms)

abbrev pub IsNumberedChange : List Term → NumberedChange → Type 0
IsNumberedChange terms (Add i) = IsNumbered terms i
IsNumberedChange terms (Remove i) = IsNumbered terms i

abbrev pub change_at : List Term → NumberedChange → Change
change_at terms (Add i) = changes.Add (triple_at terms i)
change_at terms (Remove i) = changes.Remove (triple_at terms i)
