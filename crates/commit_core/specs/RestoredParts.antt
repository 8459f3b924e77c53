-- The parts of what records restore, each record by record, and their triples by the numbers of their terms. Not seen by any caller.
use Rattle.std.specs.Prelude.{◌≡◌, ◌<◌, ◌≤◌, ◌+◌, ℕ, List, [], ◌∷◌, ◌++◌, length, Option, Some, None}
use Rattle.std.specs.Borrow.{Bor}
use Rattle.std.specs.List.{flat_map}
use Rattle.rdf_model.specs.declared.ids.Ids.{Ids}
use Rattle.rdf_model.specs.declared.term.Term.{Term}
use Rattle.rdf_model.specs.declared.triple.Triple.{Triple}
use Rattle.rdf_model.specs.Numbers.{AreNumbered, graph_of}
use Rattle.record_text.specs.declared.record.Record.{Record}
use Rattle.store_model.specs.Store.{shapes_under}
use Rattle.term_dict.specs.declared.fault.NameFault.{NameFault}
use Rattle.term_dict.specs.declared.fault.NameFault.TheVariants as names
use Rattle.data_graph.specs.DataGraphs.{NamedGraph}
use Rattle.store_model.specs.declared.event.Limits.{Limits}
use Rattle.commit_core.specs.declared.recorded.NamedRecords.{NamedRecords}
use Rattle.commit_core.specs.declared.recorded.RecordIds.{RecordIds}
use Rattle.commit_core.specs.declared.restoring.RestoreFault.{RestoreFault}
use Rattle.commit_core.specs.declared.restoring.RestoreFault.TheVariants.{Misfit, TooLarge, Blocked, Memory}
use Rattle.commit_core.specs.Restored.{FitInTurn, IsFirstMisfit, graph_after, restored}

abbrev pub graphs : List Triple → List Record → List Triple
graphs g [] = g
graphs g (r ∷ rs) = graphs (graph_after g r) rs

abbrev pub shapes_after : List Triple → List Record → List Triple
shapes_after shapes [] = shapes
shapes_after shapes (r ∷ rs) = shapes_after (shapes_under shapes r.shapes) rs

-- the shapes graph that a record staged, which may be none
abbrev pub staged_in : Option (Bor Record) → List Triple
staged_in None = []
staged_in (Some entry) = shapes_under [] entry.now.shapes

-- the triples of the shapes graph, if one was staged, and all triples of a record and of records, in the order in which their terms
-- are named
abbrev pub staged_triples : Option (List Triple) → List Triple
staged_triples None = []
staged_triples (Some triples) = triples

abbrev pub record_triples : Record → List Triple
record_triples r = r.removed ++ (r.added ++ staged_triples r.shapes)

abbrev pub all_triples : List Record → List Triple
all_triples records = flat_map record_triples records

-- the triples whose terms have these numbers, one after the other
abbrev pub triples_in : List ℕ → List Ids
triples_in [] = []
triples_in (s ∷ []) = []
triples_in (s ∷ p ∷ []) = []
triples_in (s ∷ p ∷ o ∷ ns) = record { subject = s; predicate = p; object = o } ∷ triples_in ns

-- the numbers are those of the triples, in their order
abbrev pub StandFor : List Term → List Ids → List Triple → Type 0
StandFor terms ids ts = AreNumbered terms ids × (graph_of terms ids ≡ ts)

-- the terms of the records are named in a graph with no triple, within the limit, and these are their blank nodes and the numbers of
-- all their triples
pub record AreNamedRecords (limit : ℕ) (records : List Record) (n : NamedRecords) : Type 0 where
  pub graph_is : n.graph ≡ record { triples = []; shapes = []; terms = (restored records).named; limit = limit }
  pub given_is : n.given ≡ (restored records).given
  pub within : length (restored records).named ≤ limit + 2
  pub numbers : StandFor n.graph.terms n.ids (all_triples records)

-- the terms of the records are more than the limit, unless memory ran out
abbrev pub HaveTooMany : ℕ → List Record → NameFault → Type 0
HaveTooMany limit records (names.Full count) = limit + 2 < length (restored records).named
HaveTooMany limit records names.Memory = Unit {0}

-- where the numbers are those of a record's triples and of more, they are parted so
abbrev pub AreRecordIds : Record → List Ids → RecordIds → Type 0
AreRecordIds r ids x = (terms : List Term) (more : List Triple) → StandFor terms ids (record_triples r ++ more) →
    StandFor terms x.removed.now r.removed × StandFor terms x.added.now r.added × StandFor terms x.rest.now more

-- the triples of these numbers are those that the record removed and added
abbrev pub IsRecordOf : List Term → List Ids → List Ids → Record → Type 0
IsRecordOf terms removed added r = (graph_of terms removed ≡ r.removed) × (graph_of terms added ≡ r.added)

-- the graph with the triples that it has after a record
abbrev pub IsAfterRecord : NamedGraph → Record → NamedGraph → Type 0
IsAfterRecord g r h = h ≡ record { triples = graph_after g.triples r; shapes = g.shapes; terms = g.terms; limit = g.limit }

-- each record fits, and this is the graph with the triples that they lead to
abbrev pub IsLastGraph : NamedGraph → List Record → NamedGraph → Type 0
IsLastGraph g records h = FitInTurn [] records × (h ≡ record { triples = (restored records).graph; shapes = g.shapes; terms = g.terms; limit = g.limit })

-- a record is the first that doesn't fit, unless memory ran out
abbrev pub IsMisfit : List Record → RestoreFault → Type 0
IsMisfit records (Misfit number) = IsFirstMisfit records number
IsMisfit records TooLarge = ⊥
IsMisfit records Blocked = ⊥
IsMisfit records Memory = Unit {0}

-- each record fits, and this is the graph that they lead to, within the limits
pub record IsGraphWithin (l : Limits) (records : List Record) (g : NamedGraph) : Type 0 where
  pub fit : FitInTurn [] records
  pub graph_is : g ≡ record { triples = (restored records).graph; shapes = (restored records).shapes; terms = (restored records).named; limit = l.terms }
  pub terms : length (restored records).named ≤ l.terms + 2
  pub triples : length (restored records).graph ≤ l.triples
