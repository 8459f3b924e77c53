-- Records by the numbers of their terms.
use Rattle.std.specs.Prelude.{◌≡◌, ◌↔◌, List, map}
use Rattle.std.specs.List.{All, AllByRecursion, Contains}
use Rattle.collections.specs.Ordered.{IsAscending}
use Rattle.rdf_model.specs.declared.change.Change.{Change}
use Rattle.rdf_model.specs.declared.ids.Ids.{Ids}
use Rattle.rdf_model.specs.declared.term.Term.{Term}
use Rattle.rdf_model.specs.declared.triple.Triple.{Triple}
use Rattle.rdf_model.specs.Numbers.{AreNumbered, graph_of}
use Rattle.rdf_model.specs.Terms.{triple_cmp}
use Rattle.record_text.specs.declared.record.Record.{Record}
use Rattle.triple_index.specs.declared.change.NumberedChange.{NumberedChange}
use Rattle.triple_index.specs.Changes.{IsNumberedChange, change_at}
use Rattle.follower.specs.Records.{data_after}

-- each number of the triples has a term, and read as terms they have just the members of the graph
pub record IsIndexOf (terms : List Term) (ids : List Ids) (g : List Triple) : Type 0 where
  pub numbered : AreNumbered terms ids
  pub members : (t : Triple) → Contains (graph_of terms ids) t ↔ Contains g t

-- the terms of a triple are named, and those of each triple that a record removes or adds; not seen by any caller
abbrev pub IsNamedTriple : List Term → Triple → Type 0
IsNamedTriple terms t = Contains terms t.subject × Contains terms t.predicate × Contains terms t.object

abbrev pub AreNamedTriples : List Term → List Triple → Type 0
AreNamedTriples terms ts = All (IsNamedTriple terms) ts

abbrev pub IsNamedRecord : List Term → Record → Type 0
IsNamedRecord terms r = AreNamedTriples terms r.removed × AreNamedTriples terms r.added

-- the changes of numbers stand for these changes; not seen by any caller
abbrev pub StandFor : List Term → List NumberedChange → List Change → Type 0
StandFor terms numbered net = AllByRecursion (IsNumberedChange terms) numbered × (map (change_at terms) numbered ≡ net)

-- the numbers later are the index of each graph after the record whose index the numbers ids were; not seen by any caller
abbrev pub KeepsIndex : List Term → List Ids → Record → List Ids → Type 0
KeepsIndex terms ids r later = (g : List Triple) → IsAscending triple_cmp g → IsIndexOf terms ids g → IsIndexOf terms later (data_after g r)
