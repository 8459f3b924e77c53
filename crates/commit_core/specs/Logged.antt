-- What a core appends to its log, and what a crash leaves of it.
use Rattle.std.specs.Prelude.{◌≡◌, ℕ, ◌+◌, true, false, not, List, [], ◌∷◌, ◌++◌, Option, Some, None}
use Rattle.std.specs.List.{AllByRecursion, filter}
use Rattle.collections.specs.Ordered.{has_item}
use Rattle.rdf_model.specs.declared.triple.Triple.{Triple}
use Rattle.rdf_model.specs.Graphs.{after, lacking}
use Rattle.rdf_model.specs.Terms.{triple_cmp}
use Rattle.disk.specs.Crashes.{EachCrash, History, Moment, Throughout}
use Rattle.disk.specs.Faults.{Rose}
use Rattle.ntriples_text.specs.Laws.{IsReadable, IsStored}
use Rattle.record_text.specs.declared.record.Record.{Record}
use Rattle.record_text.specs.Records.{HasReadableShapes}
use Rattle.commit_log.specs.Format.{Opens}
use Rattle.commit_log.specs.Log.{LogState, OpensOneOf}
use Rattle.store_model.specs.declared.commit.Transaction.{Transaction}
use Rattle.store_model.specs.declared.event.Action.{Action}
use Rattle.store_model.specs.declared.event.Action.TheVariants as actions
use Rattle.store_model.specs.declared.event.Event.{Event}
use Rattle.store_model.specs.declared.event.Reply.{Reply}
use Rattle.store_model.specs.declared.event.Reply.TheVariants as replies
use Rattle.store_model.specs.Store.{RecordedStore, changed_triple, version}
use Rattle.commit_core.specs.declared.commit.Commit.{Commit}
use Rattle.commit_core.specs.declared.commit.Commit.TheVariants.{Done, Conflict, FullTriples, Refused, LogFault, Stopped, Memory}

-- the record of a commit to this graph, after so many commits
abbrev pub record_of : List Triple → ℕ → Transaction → Record
record_of g n x = record { number = n + 1; removed = lacking g (after g x.net); added = lacking (after g x.net) g; shapes = x.staged }

-- the transaction of an event that was accepted, and of one at which the log failed
abbrev pub accepted_in : Action → Reply → Option Transaction
accepted_in (actions.Commit x) (replies.Done n why) = Some x
accepted_in a r = None

abbrev pub failed_in : Action → Reply → Option Transaction
failed_in (actions.Commit x) replies.LogFault = Some x
failed_in a r = None

-- the graph and the number of commits after an event, by the transaction that was accepted in it
abbrev pub graph_by : Option Transaction → List Triple → List Triple
graph_by None g = g
graph_by (Some x) g = after g x.net

abbrev pub number_by : Option Transaction → ℕ → ℕ
number_by None n = n
number_by (Some x) n = n + 1

abbrev pub records_by : Option Transaction → List Triple → ℕ → List Record
records_by None g n = []
records_by (Some x) g n = record_of g n x ∷ []

-- the records of a history that begins with this graph, after so many commits: one for each commit that was accepted
abbrev pub records_of : List Triple → ℕ → List Event → List Record
records_of g n [] = []
records_of g n (e ∷ es) = records_by (accepted_in e.action e.reply) g n ++ records_of (graph_by (accepted_in e.action e.reply) g) (number_by (accepted_in e.action e.reply) n) es

abbrev pub record_by : Option Transaction → List Triple → ℕ → Option Record
record_by None g n = None
record_by (Some x) g n = Some (record_of g n x)

abbrev pub first_record : Option Record → Option Record → Option Record
first_record None later = later
first_record (Some r) later = Some r

-- the record of the commit at which the log failed, if it did
abbrev pub lost_of : List Triple → ℕ → List Event → Option Record
lost_of g n [] = None
lost_of g n (e ∷ es) = first_record (record_by (failed_in e.action e.reply) g n) (lost_of (graph_by (accepted_in e.action e.reply) g) (number_by (accepted_in e.action e.reply) n) es)

-- the records of a log that had some at first, and the one that may stand behind them
abbrev pub logged : List Record → RecordedStore → List Record
logged base s = base ++ records_of s.start.graph (version s.start) s.history

abbrev pub lost : RecordedStore → Option Record
lost s = lost_of s.start.graph (version s.start) s.history

-- each crash leaves these records; or these, or these and the one at which the log failed
abbrev pub Lasts : List Record → Option Record → Moment → Type 0
Lasts done None m = EachCrash (λ image. Opens image done) m
Lasts done (Some r) m = EachCrash (OpensOneOf done r) m

-- a read gives these records, until the log failed
abbrev pub Shows : List Record → Option Record → List ℕ → Type 0
Shows done None bytes = Opens bytes done
Shows done (Some r) bytes = Unit {0}

-- an append to the log failed exactly where the core is stopped; until then its last number is the core's version
pub record IsBeside {D : Type 0} (core : RecordedStore) (log : LogState D) : Type 0 where
  pub closed : log.closed ≡ core.state.stopped
  pub count : core.state.stopped ≡ false → log.count ≡ version core.state

-- The log, which had these records as the core's history began, has the core's commits since.
pub record IsInStep {D : Type 0} (tells : Type 0) (bytes : D → List ℕ) (history : D → History) (base : List Record) (core : RecordedStore) (log : LogState D) : Type 0 where
  pub beside : IsBeside core log
  pub lasts : tells → Lasts (logged base core) (lost core) (history log.disk).now
  pub shows : tells → Shows (logged base core) (lost core) (bytes log.disk)

-- what the log's record of a commit has to give back can be read
pub record IsLoggable (x : Transaction) : Type 0 where
  pub net : AllByRecursion (λ c. IsReadable IsStored (changed_triple c)) x.net
  pub staged : HasReadableShapes x.staged

-- at each moment of the call a crash leaves the records that there were, or these and the new one
abbrev pub LeavesOne : {D : Type 0} → Type 0 → (D → List ℕ) → (D → History) → Record → LogState D → LogState D → Type 0
LeavesOne tells bytes history r old new = tells → (records : List Record) → Opens (bytes old.disk) records → Throughout (history old.disk) (history new.disk) (OpensOneOf records r)

-- the log has the record, and each crash leaves it
pub record IsAppended {D : Type 0} (tells : Type 0) (bytes : D → List ℕ) (history : D → History) (r : Record) (old new : LogState D) : Type 0 where
  pub closed : new.closed ≡ false
  pub count : new.count ≡ old.count + 1
  pub crash : LeavesOne tells bytes history r old new
  pub durable : tells → (records : List Record) → Opens (bytes old.disk) records → EachCrash (λ image. Opens image (records ++ r ∷ [])) (history new.disk).now × Opens (bytes new.disk) (records ++ r ∷ [])

-- the log failed, which its disk is to blame for
pub record IsFailed {D : Type 0} (tells : Type 0) (bytes : D → List ℕ) (history : D → History) (faults : D → ℕ) (r : Record) (old new : LogState D) : Type 0 where
  pub closed : new.closed ≡ true
  pub rose : Rose (faults old.disk) (faults new.disk)
  pub crash : LeavesOne tells bytes history r old new

-- By its answer: a commit that is accepted is appended, one at which the log failed blames the disk, and all others leave the
-- log as it is.
abbrev pub LogsCommit : {D : Type 0} → Type 0 → (D → List ℕ) → (D → History) → (D → ℕ) → Record → LogState D → LogState D → Commit → Type 0
LogsCommit tells bytes history faults r old new (Done number again) = IsAppended tells bytes history r old new
LogsCommit tells bytes history faults r old new (Conflict commit triple) = new ≡ old
LogsCommit tells bytes history faults r old new (FullTriples count) = new ≡ old
LogsCommit tells bytes history faults r old new (Refused rows again shapes) = new ≡ old
LogsCommit tells bytes history faults r old new LogFault = IsFailed tells bytes history faults r old new
LogsCommit tells bytes history faults r old new (Stopped version) = new ≡ old
LogsCommit tells bytes history faults r old new (Memory y) = new ≡ old

-- the record has this number and these shapes, and of the changed triples those that are in the graph are removed, and the
-- others added; not seen by any caller
pub record IsRecordOf (number : ℕ) (g changed : List Triple) (staged : Option (List Triple)) (r : Record) : Type 0 where
  pub number_is : r.number ≡ number
  pub removed : r.removed ≡ filter (λ t. has_item triple_cmp t g) changed
  pub added : r.added ≡ filter (λ t. not (has_item triple_cmp t g)) changed
  pub shapes : r.shapes ≡ staged
