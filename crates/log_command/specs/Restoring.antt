-- Why the records of a log restore no store.
use Rattle.std.specs.Prelude.{◌≡◌, ◌⊎◌, ℕ, true, false, List, ◌∷◌, ◌++◌, length, Some, None}
use Rattle.std.specs.List.{AllByRecursion}
use Rattle.rdf_model.specs.declared.triple.Triple.{Triple}
use Rattle.record_text.specs.declared.record.Record.{Record}
use Rattle.outside.specs.Faults.{Refusal}
use Rattle.shape_rules.specs.declared.rule_row.RuleRow.{RuleRow}
use Rattle.shape_rules.specs.Broken.{IsBroken, IsWellFormed}
use Rattle.shape_reader.specs.declared.fault.ShapeFault.{ShapeFault}
use Rattle.shape_reader.specs.declared.fault.ShapeFault.TheVariants as reader
use Rattle.shape_reader.specs.Parts.{IsRefused}
use Rattle.store_model.specs.declared.event.Limits.{Limits}
use Rattle.store_model.specs.Store.{RecordedStore}
use Rattle.commit_core.specs.declared.restoring.RestoreFault.{RestoreFault}
use Rattle.commit_core.specs.declared.restoring.RestoreFault.TheVariants as restore
use Rattle.commit_core.specs.Restored.{IsFirstMisfit, IsRestoreFault, IsRestored, restored}
use Rattle.log_command.specs.declared.fault.LogFault.{LogFault}
use Rattle.log_command.specs.declared.fault.LogFault.TheVariants.{ReadFault, BadLog, Spent, Pattern, TooLarge, Memory}
use Rattle.log_command.specs.Nodes.{IsFirstNumber, first_numbers, is_spent}

-- the shapes graph that the records lead to
abbrev pub last_shapes : List Record → List Triple
last_shapes records = (restored records).shapes

-- the last record that staged a shapes graph has this number, and it is this graph
pub record IsLastStaged (records : List Record) (number : ℕ) (shapes : List Triple) : Type 0 where
  pub front : List Record
  pub entry : Record
  pub back : List Record
  pub all : records ≡ front ++ entry ∷ back
  pub number_is : number ≡ entry.number
  pub staged : entry.shapes ≡ Some shapes
  pub none : AllByRecursion (λ r. r.shapes ≡ None) back

-- so it is, and the graph breaks a rule
abbrev pub HasBrokenShapes : List Record → ℕ → Type 0
HasBrokenShapes records number = (shapes : List Triple) × IsLastStaged records number shapes × ((row : RuleRow) × IsBroken shapes row)

-- The record is the one of the last shapes, which break a rule; or the first that doesn't fit; or the last one, where the graph
-- that the records lead to has a result.
abbrev pub IsBadRecord : Limits → List Record → ℕ → Type 0
IsBadRecord l records number =
    HasBrokenShapes records number ⊎ ((IsWellFormed (last_shapes records) × IsFirstMisfit records number)
    ⊎ (IsWellFormed (last_shapes records) × IsRestoreFault l records restore.Blocked × (number ≡ length records)))

-- Why, in the order in which it is looked for: a blank number of theirs is spent; the last shapes break a rule, or their pattern
-- joined those that the maker refused; a record doesn't fit; the limits are passed; or the last graph has a result.
abbrev pub StopsRestore : Limits → List Record → List Refusal → List Refusal → LogFault → Type 0
StopsRestore l records old new ReadFault = ⊥
StopsRestore l records old new (BadLog number) = (is_spent records ≡ false) × IsBadRecord l records number × (new ≡ old)
StopsRestore l records old new Spent = (is_spent records ≡ true) × (new ≡ old)
StopsRestore l records old new (Pattern node) = (is_spent records ≡ false) × IsWellFormed (last_shapes records) × IsRefused (last_shapes records) node old new
StopsRestore l records old new TooLarge = (is_spent records ≡ false) × IsWellFormed (last_shapes records) × IsRestoreFault l records restore.TooLarge × (new ≡ old)
StopsRestore l records old new Memory = new ≡ old

-- The store that the records restore, and where so many sessions begin to number their blank nodes.
pub record AreRestored (l : Limits) (records : List Record) (sessions : ℕ) (core : RecordedStore) (first : List ℕ) : Type 0 where
  pub unspent : is_spent records ≡ false
  pub well_formed : IsWellFormed (last_shapes records)
  pub store : IsRestored l records core
  pub first_is : first ≡ first_numbers records sessions
  pub first_within : AllByRecursion IsFirstNumber first

-- the last shapes graph, or why there is none; not seen by any caller
abbrev pub of_shapes : ShapeFault → ℕ → LogFault
of_shapes (reader.Rule row) number = BadLog number
of_shapes (reader.Pattern node) number = Pattern node
of_shapes reader.Memory number = Memory

abbrev pub StopsShapes : List Record → List Refusal → List Refusal → LogFault → Type 0
StopsShapes records old new ReadFault = ⊥
StopsShapes records old new (BadLog number) = HasBrokenShapes records number × (new ≡ old)
StopsShapes records old new Spent = ⊥
StopsShapes records old new (Pattern node) = IsWellFormed (last_shapes records) × IsRefused (last_shapes records) node old new
StopsShapes records old new TooLarge = ⊥
StopsShapes records old new Memory = new ≡ old

-- a fault of restoring, of so many records, as one of the log; not seen by any caller
abbrev pub of_restore : RestoreFault → ℕ → LogFault
of_restore (restore.Misfit number) count = BadLog number
of_restore restore.TooLarge count = TooLarge
of_restore restore.Blocked count = BadLog count
of_restore restore.Memory count = Memory

-- what is ready before the graphs are restored; not seen by any caller
pub record IsReady (records : List Record) (sessions : ℕ) (shapes : List Triple) (first : List ℕ) : Type 0 where
  pub unspent : is_spent records ≡ false
  pub well_formed : IsWellFormed (last_shapes records)
  pub shapes_are : shapes ≡ last_shapes records
  pub first_is : first ≡ first_numbers records sessions
  pub first_within : AllByRecursion IsFirstNumber first
