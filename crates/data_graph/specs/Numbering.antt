-- Changes by the places of their terms, and by the numbers that stand at these places.
use Rattle.std.specs.Prelude.{◌<◌, ℕ, List, length}
use Rattle.std.specs.List.{AllZip, Contains}
use Rattle.std.proofs.Common.{get_or}
use Rattle.rdf_model.specs.declared.ids.Ids.{Ids}
use Rattle.rdf_model.specs.declared.term.Term.{Term}
use Rattle.term_dict.specs.Names.{IsNumberOf}
use Rattle.triple_index.specs.declared.change.NumberedChange.{NumberedChange}
use Rattle.triple_index.specs.declared.change.NumberedChange.TheVariants.{Add, Remove}

-- where the term is named, the number stands for it
abbrev pub IsNumberWhereNamed : List Term → Term → ℕ → Type 0
IsNumberWhereNamed names t n = Contains names t → IsNumberOf names t n

-- each number stands for the term at its place in the other list, where that is named
abbrev pub AreNumbersWhereNamed : List Term → List Term → List ℕ → Type 0
AreNumbersWhereNamed names ts ns = AllZip (IsNumberWhereNamed names) ts ns

-- a number stands at each of the places of a triple, and of a change
abbrev pub HasPlaces : List ℕ → Ids → Type 0
HasPlaces ns i = (i.subject < length ns) × (i.predicate < length ns) × (i.object < length ns)

abbrev pub HasChangePlaces : List ℕ → NumberedChange → Type 0
HasChangePlaces ns (Add i) = HasPlaces ns i
HasChangePlaces ns (Remove i) = HasPlaces ns i

-- the numbers that stand at the places of a triple, and of a change
abbrev pub ids_at : List ℕ → Ids → Ids
ids_at ns i = record { subject = get_or ns i.subject 0; predicate = get_or ns i.predicate 0; object = get_or ns i.object 0 }

abbrev pub change_by : List ℕ → NumberedChange → NumberedChange
change_by ns (Add i) = Add (ids_at ns i)
change_by ns (Remove i) = Remove (ids_at ns i)
