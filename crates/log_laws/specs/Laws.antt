-- What the records of a log make of a store, and of a follower.
use Rattle.std.specs.Prelude.{◌≡◌, ◌↔◌, ℕ, ◌≤◌, List, [], ◌++◌, take, Option, Some, None}
use Rattle.std.specs.List.{AllByRecursion, Contains}
use Rattle.collections.specs.Ordered.{IsAscending}
use Rattle.rdf_model.specs.declared.triple.Triple.{Triple}
use Rattle.rdf_model.specs.Terms.{triple_cmp}
use Rattle.record_text.specs.declared.record.Record.{Record}
use Rattle.commit_log.specs.Format.{AreRecordsFrom}
use Rattle.store_model.specs.declared.event.Event.{Event}
use Rattle.store_model.specs.declared.event.Limits.{Limits}
use Rattle.store_model.specs.Store.{Replays, State, version}
use Rattle.commit_core.specs.Logged.{records_of}
use Rattle.commit_core.specs.Restored.{FitInTurn, restored}
use Rattle.follower.specs.Followed.{Followed, unfed, version_of}
use Rattle.follower.specs.Laws.{Feeding, Runs}
use Rattle.follower.specs.Records.{AllFit, data_of, shapes_of}

-- each record fits the graph that those before it lead to, and the store that they restore has the graph, the shapes graph and
-- the commits of this state
pub record RestoreCommits (records : List Record) (t : State) : Type 0 where
  pub fit : FitInTurn [] records
  pub graph : (restored records).graph ≡ t.graph
  pub shapes : (restored records).shapes ≡ t.shapes
  pub commits : (restored records).commits ≡ t.commits

-- Records that fit in turn, and behind them those of a history that begins at the store which they restore, restore what the
-- history led to.
abbrev pub RecordsRestoreCommits : Type 0
RecordsRestoreCommits = (l : Limits) (records : List Record) (es : List Event) (t : State) → FitInTurn [] records → Replays l (restored records) es t
    → RestoreCommits (records ++ records_of (restored records).graph (version (restored records)) es) t

-- the shapes graph, if one was staged, ascends
abbrev pub IsAscendingIfStaged : Option (List Triple) → Type 0
IsAscendingIfStaged None = Unit {0}
IsAscendingIfStaged (Some triples) = IsAscending triple_cmp triples

abbrev pub StageAscending : List Record → Type 0
StageAscending records = AllByRecursion (λ (r : Record). IsAscendingIfStaged r.shapes) records

-- a follower's graphs after these records are those of the store that they restore, and they all fit for both or for neither
pub record GivesRestored (records : List Record) : Type 0 where
  pub graph : data_of records ≡ (restored records).graph
  pub shapes : StageAscending records → shapes_of records ≡ (restored records).shapes
  pub fit : AllFit [] records ↔ FitInTurn [] records

abbrev pub FollowersGraphsAreRestored : Type 0
FollowersGraphsAreRestored = (records : List Record) → GivesRestored records

-- each version up to the follower's own has the graphs of the store that so many first records restore
pub record HasStoresGraphs (records : List Record) (s : Followed) : Type 0 where
  pub graph : (version : ℕ) → version ≤ version_of s → data_of (take version s.applied) ≡ (restored (take version records)).graph
  pub shapes : (version : ℕ) → version ≤ version_of s → shapes_of (take version s.applied) ≡ (restored (take version records)).shapes

-- where each record fed is one of a log's, which fit in turn, in any order, with repeats and losses
abbrev pub FollowsStore : Type 0
FollowsStore = (records : List Record) (fs : List Feeding) (s : Followed) → AreRecordsFrom 1 records → FitInTurn [] records
    → ((f : Feeding) → Contains fs f → Contains records f.0) → Runs unfed fs s → HasStoresGraphs records s
