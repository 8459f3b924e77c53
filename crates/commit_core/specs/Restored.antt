-- What the records of a log restore.
use Rattle.std.specs.Prelude.{◌≡◌, ◌⊎◌, ℕ, ◌+◌, ◌<◌, ◌≤◌, Bool, true, false, not, ◌&&◌, List, [], ◌∷◌, ◌++◌, length, Option, Some, None}
use Rattle.std.specs.List.{flat_map, list_all}
use Rattle.rdf_model.specs.declared.term.Term.{Term}
use Rattle.rdf_model.specs.declared.triple.Triple.{Triple}
use Rattle.rdf_model.specs.Graphs.{with_each}
use Rattle.rdf_model.specs.Terms.{triple_cmp}
use Rattle.collections.specs.Ordered.{has_item, without_item}
use Rattle.record_text.specs.declared.record.Record.{Record}
use Rattle.store_model.specs.declared.commit.Accepted.{Accepted}
use Rattle.store_model.specs.declared.event.Limits.{Limits}
use Rattle.store_model.specs.Blocking.{NoBlocking}
use Rattle.store_model.specs.Nodes.{given_with}
use Rattle.store_model.specs.Store.{RecordedStore, State, empty_store, is_staged, named_with, shapes_under, terms_of}
use Rattle.commit_core.specs.Outcomes.{HasBlocking}
use Rattle.commit_core.specs.declared.restoring.RestoreFault.{RestoreFault}
use Rattle.commit_core.specs.declared.restoring.RestoreFault.TheVariants.{Misfit, TooLarge, Blocked, Memory}

-- the graph without each of the triples
abbrev pub without_each : List Triple → List Triple → List Triple
without_each g [] = g
without_each g (t ∷ ts) = without_each (without_item triple_cmp t g) ts

-- the graph after a record: the triples that it removed are taken out, those that it added are put in
abbrev pub graph_after : List Triple → Record → List Triple
graph_after g r = with_each (without_each g r.removed) r.added

-- each triple that the record removed is in the graph, and none that it added is
abbrev pub fits_record : List Triple → Record → Bool
fits_record g r = list_all (λ t. has_item triple_cmp t g) r.removed && list_all (λ t. not (has_item triple_cmp t g)) r.added

-- the terms of the shapes graph, if one was staged, and of all triples of a record, in order
abbrev pub shapes_terms : Option (List Triple) → List Term
shapes_terms None = []
shapes_terms (Some triples) = flat_map terms_of triples

abbrev pub record_terms : Record → List Term
record_terms r = flat_map terms_of r.removed ++ (flat_map terms_of r.added ++ shapes_terms r.shapes)

-- the commit of a record, as a store keeps it
abbrev pub accepted_by : Record → Accepted
accepted_by r = record { changed = with_each r.removed r.added; staged = is_staged r.shapes }

-- The store after a record: its terms are named, and its blank nodes given out.
abbrev pub with_record : State → Record → State
with_record s r = record s {
  graph = graph_after s.graph r;
  shapes = shapes_under s.shapes r.shapes;
  commits = s.commits ++ accepted_by r ∷ [];
  named = named_with s.named (record_terms r);
  given = given_with s.given (record_terms r);
}

abbrev pub restored_from : State → List Record → State
restored_from s [] = s
restored_from s (r ∷ rs) = restored_from (with_record s r) rs

-- The store that records lead to from the empty one, the first record first.
abbrev pub restored : List Record → State
restored records = restored_from empty_store records

-- each record fits the graph that those before it lead to
abbrev pub FitInTurn : List Triple → List Record → Type 0
FitInTurn g [] = Unit {0}
FitInTurn g (r ∷ rs) = (fits_record g r ≡ true) × FitInTurn (graph_after g r) rs

-- The record with this number removes an absent triple or adds a present one, and is the first such.
pub record IsFirstMisfit (records : List Record) (number : ℕ) : Type 0 where
  pub front : List Record
  pub wrong : Record
  pub back : List Record
  pub all : records ≡ front ++ wrong ∷ back
  pub place : number ≡ length front + 1
  pub fit : FitInTurn [] front
  pub misfit : fits_record (restored front).graph wrong ≡ false

pub record IsWithinLimits (l : Limits) (s : State) : Type 0 where
  pub terms : length s.named ≤ l.terms + 2
  pub triples : length s.graph ≤ l.triples

abbrev pub IsTooLarge : Limits → State → Type 0
IsTooLarge l s = (l.terms + 2 < length s.named) ⊎ (l.triples < length s.graph)

abbrev pub IsRestoreFault : Limits → List Record → RestoreFault → Type 0
IsRestoreFault l records (Misfit number) = IsFirstMisfit records number
IsRestoreFault l records TooLarge = FitInTurn [] records × IsTooLarge l (restored records)
IsRestoreFault l records Blocked = FitInTurn [] records × IsWithinLimits l (restored records) × HasBlocking l.mode (restored records).graph (restored records).shapes
IsRestoreFault l records Memory = Unit {0}

-- the store has these limits, an empty history that begins at what the records restore, and nothing stands against it
pub record IsRestored (l : Limits) (records : List Record) (s : RecordedStore) : Type 0 where
  pub store : s ≡ record { limits = l; start = restored records; state = restored records; history = [] }
  pub fit : FitInTurn [] records
  pub within : IsWithinLimits l (restored records)
  pub none : NoBlocking l.mode (restored records).graph (restored records).shapes
