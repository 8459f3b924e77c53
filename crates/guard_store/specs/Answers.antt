-- What each call of the store is answered, and what the session or the keeper is then.
use Rattle.std.specs.Prelude.{◌≡◌, ℕ, ◌+◌, ◌<◌, ◌≤◌, Bool, List, [], ◌∷◌, map, Some, None, Result, Ok, Err, ◌⊎◌}
use Rattle.rdf_model.specs.declared.term.Term.{Term}
use Rattle.rdf_model.specs.declared.triple.Triple.{Triple}
use Rattle.rdf_model.specs.Graphs.{after}
use Rattle.shape_model.specs.Validation.{Listing}
use Rattle.turn_lock.specs.Callers.{Caller, kept_caller, new_caller}
use Rattle.store_model.specs.declared.event.NameKind.{NameKind}
use Rattle.store_model.specs.declared.event.NameKind.TheVariants as kinds
use Rattle.store_model.specs.declared.event.Event.{Event}
use Rattle.store_model.specs.declared.event.Action.{Action}
use Rattle.store_model.specs.declared.event.Action.TheVariants as actions
use Rattle.store_model.specs.declared.event.Reply.{Reply}
use Rattle.store_model.specs.declared.event.Reply.TheVariants as replies
use Rattle.store_model.specs.declared.commit.Transaction.{Transaction}
use Rattle.store_model.specs.Snapshots.{Snapshot, snapshot_of}
use Rattle.store_model.specs.Nodes.{not_given}
use Rattle.store_model.specs.Store.{again, State, HasChange, shapes_under}
use Rattle.session_model.specs.Reports.{ReportedGraph}
use Rattle.session_model.specs.Sessions.{additions, parts_of, removals}
use Rattle.commit_core.specs.Work.{StepsBy}
use Rattle.commit_core.specs.declared.naming.NamingFault.{NamingFault}
use Rattle.commit_core.specs.declared.naming.NamingFault.TheVariants as names
use Rattle.guard_store.specs.Slots.{Origin}
use Rattle.guard_store.specs.Sessions.{StoreKeeper, StoreSession}
use Rattle.guard_store.specs.declared.faults.OpenFault.{OpenFault}
use Rattle.guard_store.specs.declared.faults.OpenFault.TheVariants as openings
use Rattle.guard_store.specs.declared.faults.BeginFault.{BeginFault}
use Rattle.guard_store.specs.declared.faults.BeginFault.TheVariants as begins
use Rattle.guard_store.specs.declared.faults.StageFault.{StageFault}
use Rattle.guard_store.specs.declared.faults.StageFault.TheVariants as stages
use Rattle.guard_store.specs.declared.faults.AttachFault.{AttachFault}
use Rattle.guard_store.specs.declared.faults.AttachFault.TheVariants as attaches
use Rattle.guard_store.specs.declared.faults.HeadFault.{HeadFault}
use Rattle.guard_store.specs.declared.faults.HeadFault.TheVariants as heads
use Rattle.guard_store.specs.declared.faults.CommitFault.{CommitFault}
use Rattle.guard_store.specs.declared.faults.CommitFault.TheVariants as commits
use Rattle.guard_store.specs.declared.faults.CheckFault.{CheckFault}
use Rattle.guard_store.specs.declared.faults.CheckFault.TheVariants as checks
use Rattle.guard_store.specs.declared.faults.FindFault.{FindFault}
use Rattle.guard_store.specs.declared.faults.FindFault.TheVariants as finds
use Rattle.guard_store.specs.declared.faults.ReportFault.{ReportFault}
use Rattle.guard_store.specs.declared.faults.ReportFault.TheVariants as reports
use Rattle.guard_store.specs.declared.faults.SelectFault.{SelectFault}
use Rattle.guard_store.specs.declared.faults.SelectFault.TheVariants as selects
use Rattle.bgp_query.specs.declared.pattern.JoinPattern.{JoinPattern}
use Rattle.bgp_query.specs.Selected.{AreTooMany}
use Rattle.bgp_query.specs.TermBindings.{opened}
use Rattle.session_transaction.specs.declared.committing.Committed.{Committed}
use Rattle.session_transaction.specs.declared.committing.Committed.TheVariants.{ReadOnly, Done, Conflict, FullTriples, Refused, LogFault, Stopped}
use Rattle.session_transaction.specs.declared.transaction.OpenTransaction.{OpenTransaction}
use Rattle.session_transaction.specs.declared.transaction.ChangeKind.{ChangeKind}
use Rattle.session_transaction.specs.declared.transaction.ChangeKind.TheVariants.{Addition, Removal, Attachment}
use Rattle.guard_store.specs.Fronts.{SharedStore, Turn, Fails}
use Rattle.session_transaction.specs.Checks.{CheckSteps, Checks, committing}
use Rattle.session_transaction.specs.Transactions.{begun_at, graph_so_far, with_changes, with_finds}
use Rattle.guard_store.specs.Callers.{IsKeeper, IsSession, OnlyReads}

abbrev pub event_of : ℕ → Action → Reply → Event
event_of i a r = record { session = i; action = a; reply = r }

-- a transaction is open, this one
abbrev pub IsOpen : StoreSession → OpenTransaction → Type 0
IsOpen s w = s.current ≡ Some w

-- The keeper opened session i, and split its caller off; both have seen the same.
pub record Opens (store : SharedStore) (old kept new : Caller Event Origin) (i : ℕ) : Type 0 where
  pub mid : Caller Event Origin
  pub turn : Turn store old mid (event_of i actions.Open (replies.Session i))
  pub kept_is : kept ≡ kept_caller i mid
  pub new_is : new ≡ new_caller i mid
  pub room : 0 < mid.spare

-- Why no session was opened: 64 were given out, or memory ran out. The entry of such a turn stands under 0.
abbrev pub OpensNot : OpenFault → SharedStore → Caller Event Origin → Caller Event Origin → Type 0
OpensNot openings.SessionsFull store old new = Turn store old new (event_of 0 actions.Open replies.SessionsFull)
OpensNot openings.Memory store old new = Fails store old new 0

-- The keeper opened the next session, which has no transaction, and may go on.
pub record OpensSession (store : SharedStore) (old new : StoreKeeper) (s : StoreSession) : Type 0 where
  pub keeper : IsKeeper store new
  pub session : IsSession store s
  pub opens : Opens store old.pass new.pass s.pass s.number
  pub number : s.number ≡ old.opened + 1
  pub opened : new.opened ≡ s.number
  pub few : old.opened < 64
  pub none : s.current ≡ None
  pub head : s.head ≡ None

-- SessionsFull comes where 64 were opened
abbrev pub IsFull : OpenFault → ℕ → Type 0
IsFull openings.SessionsFull n = 64 ≤ n
IsFull openings.Memory n = Unit {0}

-- The keeper opened no session, and may go on.
pub record OpensNothing (f : OpenFault) (store : SharedStore) (old new : StoreKeeper) : Type 0 where
  pub keeper : IsKeeper store new
  pub fault : OpensNot f store old.pass new.pass
  pub full : IsFull f old.opened
  pub opened : new.opened ≡ old.opened

-- why terms were not named
abbrev pub NamesNot : NamingFault → SharedStore → Caller Event Origin → Caller Event Origin → ℕ → NameKind → List Term → Type 0
NamesNot (names.Unknown node) store old new i kind terms = Turn store old new (event_of i (actions.Name kind terms) (replies.Unknown node))
NamesNot (names.Full count) store old new i kind terms = Turn store old new (event_of i (actions.Name kind terms) (replies.Full count))
NamesNot names.Memory store old new i kind terms = Fails store old new i

-- the turn of a commit; want of memory hands the transaction back
abbrev pub TurnCommits : SharedStore → Caller Event Origin → Caller Event Origin → ℕ → Transaction → Committed → Type 0
TurnCommits store old new i x (ReadOnly v) = ⊥
TurnCommits store old new i x (Done n why) = Turn store old new (event_of i (actions.Commit x) (replies.Done n why))
TurnCommits store old new i x (Conflict n t) = Turn store old new (event_of i (actions.Commit x) (replies.Conflict n t))
TurnCommits store old new i x (FullTriples n) = Turn store old new (event_of i (actions.Commit x) (replies.FullTriples n))
TurnCommits store old new i x LogFault = Turn store old new (event_of i (actions.Commit x) replies.LogFault)
TurnCommits store old new i x (Stopped v) = Turn store old new (event_of i (actions.Commit x) (replies.Stopped v))
TurnCommits store old new i x (Refused rows why shapes) =
    (t : Turn store old new (event_of i (actions.Commit x) (replies.Refused rows why))) × (shapes ≡ shapes_under t.before.shapes x.staged) × Listing (after t.before.graph x.net) shapes rows

-- How many evaluations were counted in the turn of a commit, from the one number to the other: by the answer, and by the
-- graph and the shapes that the turn found.
abbrev pub TurnCounts : SharedStore → Caller Event Origin → Caller Event Origin → ℕ → Transaction → ℕ → ℕ → Committed → Type 0
TurnCounts store old new i x counted now (ReadOnly v) = now ≡ counted
TurnCounts store old new i x counted now (Done n why) = (t : Turn store old new (event_of i (actions.Commit x) (replies.Done n why))) × StepsBy why t.before.graph t.before.shapes x counted now
TurnCounts store old new i x counted now (Conflict n t) = now ≡ counted
TurnCounts store old new i x counted now (FullTriples n) = now ≡ counted
TurnCounts store old new i x counted now LogFault = (t : Turn store old new (event_of i (actions.Commit x) replies.LogFault)) × StepsBy (again t.before.commits x.staged x.verdict) t.before.graph t.before.shapes x counted now
TurnCounts store old new i x counted now (Stopped v) = now ≡ counted
TurnCounts store old new i x counted now (Refused rows why shapes) = (t : Turn store old new (event_of i (actions.Commit x) (replies.Refused rows why))) × StepsBy why t.before.graph t.before.shapes x counted now

-- A transaction begins at the version where the history then leads; or one is open, and nothing happens.
abbrev pub BeginsNot : BeginFault → SharedStore → StoreSession → StoreSession → Type 0
BeginsNot begins.AlreadyOpen store old new = ((w : OpenTransaction) × IsOpen old w) × (new ≡ old)
BeginsNot begins.Memory store old new = (old.current ≡ None) × Fails store old.pass new.pass old.number × (new ≡ record old { pass = new.pass })

abbrev pub Begins : SharedStore → StoreSession → StoreSession → ℕ → Type 0
Begins store old new v = (old.current ≡ None)
    × ((t : Turn store old.pass new.pass (event_of old.number actions.Begin (replies.Version v))) × (new ≡ record old { pass = new.pass; current = Some (begun_at (snapshot_of store.limits.mode t.before)); head = None }))

-- the event of a block's terms
abbrev pub naming_of : ℕ → NameKind → List Triple → Reply → Event
naming_of i kind ts r = event_of i (actions.Name kind (parts_of ts)) r

-- The terms of a block were named; the transaction is as it was.
abbrev pub NamesFor : SharedStore → StoreSession → StoreSession → NameKind → List Triple → Type 0
NamesFor store old new kind ts = ((w : OpenTransaction) × IsOpen old w) × Turn store old.pass new.pass (naming_of old.number kind ts replies.Named) × (new ≡ record old { pass = new.pass })

-- Nothing of a block was staged. Memory may have run out once the terms were named.
abbrev pub NamesForNot : AttachFault → SharedStore → StoreSession → StoreSession → NameKind → List Triple → Type 0
NamesForNot attaches.NoTransaction store old new kind ts = (old.current ≡ None) × (new ≡ old)
NamesForNot (attaches.Unknown node) store old new kind ts = ((w : OpenTransaction) × IsOpen old w) × Turn store old.pass new.pass (naming_of old.number kind ts (replies.Unknown node)) × (new ≡ record old { pass = new.pass })
NamesForNot (attaches.Full count) store old new kind ts = ((w : OpenTransaction) × IsOpen old w) × Turn store old.pass new.pass (naming_of old.number kind ts (replies.Full count)) × (new ≡ record old { pass = new.pass })
NamesForNot attaches.Memory store old new kind ts = ((w : OpenTransaction) × IsOpen old w) × (Fails store old.pass new.pass old.number ⊎ Turn store old.pass new.pass (naming_of old.number kind ts replies.Named)) × (new ≡ record old { pass = new.pass })

-- The terms of a block were named, and it is staged: the transaction is `staged` of what it was.
abbrev pub Stages : SharedStore → StoreSession → StoreSession → NameKind → List Triple → (OpenTransaction → OpenTransaction) → Type 0
Stages store old new kind ts staged = (w : OpenTransaction) × IsOpen old w × Turn store old.pass new.pass (naming_of old.number kind ts replies.Named) × (new ≡ record old { pass = new.pass; current = Some (staged w); head = None })

-- the faults of staging, among those of attaching
abbrev pub attach_fault : StageFault → AttachFault
attach_fault stages.NoTransaction = attaches.NoTransaction
attach_fault (stages.Full count) = attaches.Full count
attach_fault stages.Memory = attaches.Memory

abbrev pub attach_answer : {U : Type 0} → Result U StageFault → Result U AttachFault
attach_answer (Ok u) = Ok u
attach_answer (Err f) = Err (attach_fault f)

-- nothing was staged
abbrev pub StagesNot : StageFault → SharedStore → StoreSession → StoreSession → NameKind → List Triple → Type 0
StagesNot f store old new kind ts = NamesForNot (attach_fault f) store old new kind ts

-- the blank nodes of a block that weren't given out before a turn, as a set
abbrev pub unknown_at : State → List Triple → List Term
unknown_at before ts = not_given before.given (parts_of ts)

-- The block was attached: an addition of each triple is staged, and each blank node of it had been given out before the turn.
abbrev pub Attaches : SharedStore → StoreSession → StoreSession → List Triple → Type 0
Attaches store old new ts = (w : OpenTransaction) × IsOpen old w × ((t : Turn store old.pass new.pass (naming_of old.number kinds.Attach ts replies.Named)) × (unknown_at t.before ts ≡ []))
    × (new ≡ record old { pass = new.pass; current = Some (with_changes w (additions ts)); head = None })

-- Nothing was attached. Where a blank node of the block wasn't given out before the turn, the least of these is told, and
-- nothing was named; only else may the limit be passed. Memory may have run out once the terms were named.
abbrev pub AttachesNot : AttachFault → SharedStore → StoreSession → StoreSession → List Triple → Type 0
AttachesNot attaches.NoTransaction store old new ts = (old.current ≡ None) × (new ≡ old)
AttachesNot (attaches.Unknown node) store old new ts = ((w : OpenTransaction) × IsOpen old w)
    × ((t : Turn store old.pass new.pass (naming_of old.number kinds.Attach ts (replies.Unknown node))) × ((more : List Term) × (unknown_at t.before ts ≡ node ∷ more)) × (t.after ≡ t.before)) × (new ≡ record old { pass = new.pass })
AttachesNot (attaches.Full count) store old new ts = ((w : OpenTransaction) × IsOpen old w)
    × ((t : Turn store old.pass new.pass (naming_of old.number kinds.Attach ts (replies.Full count))) × (unknown_at t.before ts ≡ []) × (t.after ≡ t.before)) × (new ≡ record old { pass = new.pass })
AttachesNot attaches.Memory store old new ts = ((w : OpenTransaction) × IsOpen old w) × (Fails store old.pass new.pass old.number ⊎ Turn store old.pass new.pass (naming_of old.number kinds.Attach ts replies.Named)) × (new ≡ record old { pass = new.pass })

-- A block was staged as its kind says: added about nodes of its own, removed, or attached to nodes of the store.
abbrev pub StagesBlock : ChangeKind → SharedStore → StoreSession → StoreSession → List Triple → Type 0
StagesBlock Addition store old new ts = Stages store old new kinds.Fresh ts (λ w. with_changes w (additions ts))
StagesBlock Removal store old new ts = Stages store old new kinds.Known ts (λ w. with_changes w (removals ts))
StagesBlock Attachment store old new ts = Attaches store old new ts

-- Nothing of it was staged. Only an attachment is told of an unknown node.
abbrev pub StagesBlockNot : ChangeKind → AttachFault → SharedStore → StoreSession → StoreSession → List Triple → Type 0
StagesBlockNot Addition f store old new ts = (g : StageFault) × (f ≡ attach_fault g) × StagesNot g store old new kinds.Fresh ts
StagesBlockNot Removal f store old new ts = (g : StageFault) × (f ≡ attach_fault g) × StagesNot g store old new kinds.Known ts
StagesBlockNot Attachment f store old new ts = AttachesNot f store old new ts

-- The newest version, whose snapshot the session keeps.
abbrev pub Heads : SharedStore → StoreSession → StoreSession → ℕ → Type 0
Heads store old new v = ((w : OpenTransaction) × IsOpen old w)
    × ((t : Turn store old.pass new.pass (event_of old.number actions.Head (replies.Version v))) × (new ≡ record old { pass = new.pass; head = Some (snapshot_of store.limits.mode t.before) }))

abbrev pub HeadsNot : HeadFault → SharedStore → StoreSession → StoreSession → Type 0
HeadsNot heads.NoTransaction store old new = (old.current ≡ None) × (new ≡ old)
HeadsNot heads.Memory store old new = ((w : OpenTransaction) × IsOpen old w) × Fails store old.pass new.pass old.number × (new ≡ record old { pass = new.pass })

-- The commit's answer ends the transaction, which was handed in with what is kept of its check. One that only reads is no event.
abbrev pub AnswersCommit : SharedStore → StoreSession → StoreSession → OpenTransaction → Committed → Type 0
AnswersCommit store old new w (ReadOnly v) = OnlyReads (Some w) × (v ≡ w.transaction.base) × (new.pass ≡ old.pass)
AnswersCommit store old new w (Done n why) = HasChange w.transaction.net w.transaction.staged × TurnCommits store old.pass new.pass old.number (committing w) (Done n why)
AnswersCommit store old new w (Conflict n t) = HasChange w.transaction.net w.transaction.staged × TurnCommits store old.pass new.pass old.number (committing w) (Conflict n t)
AnswersCommit store old new w (FullTriples n) = HasChange w.transaction.net w.transaction.staged × TurnCommits store old.pass new.pass old.number (committing w) (FullTriples n)
AnswersCommit store old new w LogFault = HasChange w.transaction.net w.transaction.staged × TurnCommits store old.pass new.pass old.number (committing w) LogFault
AnswersCommit store old new w (Stopped v) = HasChange w.transaction.net w.transaction.staged × TurnCommits store old.pass new.pass old.number (committing w) (Stopped v)
AnswersCommit store old new w (Refused rows why shapes) = HasChange w.transaction.net w.transaction.staged × TurnCommits store old.pass new.pass old.number (committing w) (Refused rows why shapes)

abbrev pub Commits : SharedStore → StoreSession → StoreSession → Committed → Type 0
Commits store old new answer = (w : OpenTransaction) × IsOpen old w × AnswersCommit store old new w answer × (new ≡ record old { pass = new.pass; current = None; head = None })

-- Want of memory leaves the transaction open.
abbrev pub CommitsNot : CommitFault → SharedStore → StoreSession → StoreSession → Type 0
CommitsNot commits.NoTransaction store old new = (old.current ≡ None) × (new ≡ old)
CommitsNot commits.Memory store old new = (w : OpenTransaction) × IsOpen old w × HasChange w.transaction.net w.transaction.staged × Fails store old.pass new.pass old.number × (new ≡ record old { pass = new.pass })

-- How many evaluations a session's commit counted: none where it only reads, or where no transaction is open. After want of
-- memory the count is what it was, or more.
abbrev pub CommitCounts : SharedStore → StoreSession → StoreSession → ℕ → ℕ → Result Committed CommitFault → Type 0
CommitCounts store old new counted now (Ok answer) = (w : OpenTransaction) × IsOpen old w × TurnCounts store old.pass new.pass old.number (committing w) counted now answer
CommitCounts store old new counted now (Err commits.NoTransaction) = now ≡ counted
CommitCounts store old new counted now (Err commits.Memory) = counted ≤ now

-- the commit of a transaction that only reads, and of none
abbrev pub EndsReading : StoreSession → StoreSession → Result Committed CommitFault → Type 0
EndsReading old new (Ok answer) = (w : OpenTransaction) × IsOpen old w × (answer ≡ ReadOnly w.transaction.base) × (new ≡ record old { current = None; head = None })
EndsReading old new (Err fault) = (old.current ≡ None) × (fault ≡ commits.NoTransaction) × (new ≡ old)

-- why a find has no answer; the session is as it was
abbrev pub FindsNot : FindFault → StoreSession → StoreSession → Type 0
FindsNot finds.NoTransaction old new = (old.current ≡ None) × (new ≡ old)
FindsNot finds.Memory old new = ((w : OpenTransaction) × IsOpen old w) × (new ≡ old)

-- why no bindings are answered: where there are too many the patterns are recorded all the same, else the session is as it was
abbrev pub SelectsNot : SelectFault → List (JoinPattern Term) → StoreSession → StoreSession → Type 0
SelectsNot selects.NoTransaction ps old new = (old.current ≡ None) × (new ≡ old)
SelectsNot selects.TooMany ps old new = (w : OpenTransaction) × IsOpen old w × AreTooMany (graph_so_far w) ps × (new ≡ record old { current = Some (with_finds w (map opened ps)) })
SelectsNot selects.Memory ps old new = ((w : OpenTransaction) × IsOpen old w) × (new ≡ old)

-- the graph at the begin of the open transaction, and the shapes graph there, whatever it changed since
abbrev pub Reports : StoreSession → ReportedGraph → Type 0
Reports s report = (w : OpenTransaction) × IsOpen s w × (report ≡ record { graph = w.snap.graph; shapes = w.snap.shapes })

-- why no results are reported
abbrev pub ReportsNot : ReportFault → StoreSession → Type 0
ReportsNot reports.NoTransaction s = s.current ≡ None
ReportsNot reports.Memory s = (w : OpenTransaction) × IsOpen s w

-- The open transaction was checked at the version of the last head, and is as the check left it; the rest of the session is as
-- it was.
abbrev pub ChecksHead : Bool → StoreSession → StoreSession → Type 0
ChecksHead kept old new = (w : OpenTransaction) × IsOpen old w × ((n : Snapshot) × (old.head ≡ Some n) × ((v : OpenTransaction) × Checks kept n w v × (new ≡ record old { current = Some v })))

-- No transaction is open, or no head was taken since its begin and its last staged change; a head is kept until then.
abbrev pub HasNoHead : StoreSession → Type 0
HasNoHead s = (s.current ≡ None) ⊎ (s.head ≡ None)

-- why nothing was checked; the session is as it was
abbrev pub ChecksNot : CheckFault → StoreSession → StoreSession → Type 0
ChecksNot checks.NoHead old new = HasNoHead old × (new ≡ old)
ChecksNot checks.Memory old new = ((w : OpenTransaction) × IsOpen old w) × ((n : Snapshot) × (old.head ≡ Some n)) × (new ≡ old)

-- How many evaluations a session's check counted; after want of memory the count is what it was, or more.
abbrev pub CheckCounts : StoreSession → ℕ → ℕ → Result Bool CheckFault → Type 0
CheckCounts old counted now (Ok kept) = (w : OpenTransaction) × IsOpen old w × ((n : Snapshot) × (old.head ≡ Some n) × CheckSteps n w.transaction counted now)
CheckCounts old counted now (Err checks.NoHead) = now ≡ counted
CheckCounts old counted now (Err checks.Memory) = counted ≤ now
