-- What a call of a session is answered, by what its turn gave.
use Rattle.std.proofs.Common.{◌≡◌, ◌≢◌, ℕ, ◌+◌, ◌-◌, Bool, true, false, nat_lt, Result, Ok, Err, MatchResult, List, [], ◌∷◌, length, Option, Some, None, refl, sym, ap, ◌∙◌, subst, inl, inr, ⊎_elim}
use Rattle.std.specs.Prelude.{MatchBool, ◌⊎◌}
use Rattle.turn_lock.specs.Callers.{Caller}
use Rattle.rdf_model.specs.declared.term.Term.{Term}
use Rattle.rdf_model.specs.declared.triple.Triple.{Triple}
use Rattle.rdf_model.specs.Graphs.{after}
use Rattle.shape_model.specs.Validation.{Listing}
use Rattle.store_model.specs.declared.event.NameKind.{NameKind}
use Rattle.store_model.specs.declared.event.NameKind.TheVariants as kinds
use Rattle.store_model.specs.declared.event.Limits.{Limits}
use Rattle.store_model.specs.declared.event.Event.{Event}
use Rattle.store_model.specs.declared.event.Action.TheVariants as actions
use Rattle.store_model.specs.declared.event.Reply.{Reply}
use Rattle.store_model.specs.declared.event.Reply.TheVariants as replies
use Rattle.store_model.specs.declared.commit.Transaction.{Transaction}
use Rattle.store_model.specs.Snapshots.{Snapshot, snapshot_of}
use Rattle.store_model.specs.Store.{again, State, HasChange, NamesUnless, Replies, named_with, shapes_under, with_named}
use Rattle.session_model.specs.Sessions.{additions, parts_of}
use Rattle.commit_core.specs.declared.naming.NamingFault.{NamingFault}
use Rattle.commit_core.specs.declared.naming.NamingFault.TheVariants as names
use Rattle.guard_store.specs.Slots.{Origin}
use Rattle.guard_store.specs.Sessions.{StoreSession}
use Rattle.guard_store.specs.declared.faults.StageFault.{StageFault}
use Rattle.guard_store.specs.declared.faults.StageFault.TheVariants as stages
use Rattle.guard_store.specs.declared.faults.AttachFault.{AttachFault}
use Rattle.guard_store.specs.declared.faults.AttachFault.TheVariants as attaches
use Rattle.session_transaction.specs.declared.committing.Committed.{Committed}
use Rattle.session_transaction.specs.declared.committing.Committed.TheVariants.{ReadOnly, Done, Conflict, FullTriples, Refused, LogFault, Stopped}
use Rattle.session_transaction.specs.declared.transaction.OpenTransaction.{OpenTransaction}
use Rattle.session_transaction.specs.declared.transaction.ChangeKind.{ChangeKind}
use Rattle.session_transaction.specs.declared.transaction.ChangeKind.TheVariants.{Addition, Removal, Attachment}
use Rattle.session_transaction.specs.Commits.{CountsFor, IsAnswer}
use Rattle.guard_store.specs.Fronts.{SharedStore, Turn, Fails}
use Rattle.guard_store.specs.Callers.{IsSession}
use Rattle.session_transaction.specs.Checks.{committing}
use Rattle.session_transaction.specs.Transactions.{begun_at, changes_of, name_kind_of, with_changes}
use Rattle.session_transaction.proofs.Fitting.{after_unnamed, unknown_attaches}
use Rattle.std.specs.List.{AllByRecursion}
use Rattle.ntriples_text.specs.Laws.{IsReadable, IsStored}
use Rattle.guard_store.proofs.Cases.{at_ok, at_err}
use Rattle.guard_store.proofs.Fitting.{stages_session, not_staged_session}
use Rattle.commit_core.specs.Work.{StepsBy}
use Rattle.guard_store.specs.declared.faults.CommitFault.{CommitFault}
use Rattle.guard_store.specs.Answers.{Attaches, AttachesNot, Begins, Heads, NamesFor, NamesForNot, NamesNot, Stages, StagesBlock, StagesBlockNot, StagesNot, IsOpen, AnswersCommit, CommitCounts, Commits, EndsReading, TurnCommits, TurnCounts, attach_answer, attach_fault, event_of, naming_of, unknown_at}

pub begins_now : (store : SharedStore) (old : StoreSession) (pass : Caller Event Origin) (snap : Snapshot) (v : ℕ) (new : StoreSession) → old.current ≡ None
    → (t : Turn store old.pass pass (event_of old.number actions.Begin (replies.Version snap.number))) × (snap ≡ snapshot_of store.limits.mode t.before) → v ≡ snap.number → new ≡ record old { pass = pass; current = Some (begun_at snap); head = None } → Begins store old new v
begins_now store old pass snap v new none t ev en =
    let now : StoreSession = record old { pass = pass; current = Some (begun_at snap); head = None } in
    let same : now ≡ record old { pass = pass; current = Some (begun_at (snapshot_of store.limits.mode t.0.before)); head = None } = ap (λ (n : Snapshot). let s : StoreSession = record old { pass = pass; current = Some (begun_at n); head = None } in s) t.1 in
    subst (λ (s : StoreSession). Begins store old s v) (sym en) (subst (λ (k : ℕ). Begins store old now k) (sym ev) (none, (t.0, same)))

pub heads_now : (store : SharedStore) (old : StoreSession) (pass : Caller Event Origin) (snap : Snapshot) (v : ℕ) (new : StoreSession) → (w : OpenTransaction) × IsOpen old w
    → (t : Turn store old.pass pass (event_of old.number actions.Head (replies.Version snap.number))) × (snap ≡ snapshot_of store.limits.mode t.before) → v ≡ snap.number → new ≡ record old { pass = pass; head = Some snap } → Heads store old new v
heads_now store old pass snap v new is t ev en =
    let now : StoreSession = record old { pass = pass; head = Some snap } in
    let same : now ≡ record old { pass = pass; head = Some (snapshot_of store.limits.mode t.0.before) } = ap (λ (n : Snapshot). let s : StoreSession = record old { pass = pass; head = Some n } in s) t.1 in
    subst (λ (s : StoreSession). Heads store old s v) (sym en) (subst (λ (k : ℕ). Heads store old now k) (sym ev) (is, (t.0, same)))

-- the turn of a commit, by what the core answered
pub turn_commits : (store : SharedStore) (old new : Caller Event Origin) (i : ℕ) (x : Transaction) (r : Reply) (a : Committed) (t : Turn store old new (event_of i (actions.Commit x) r)) → IsAnswer t.before x r a → TurnCommits store old new i x a
turn_commits store old new i x r (ReadOnly v) t h = absurd h
turn_commits store old new i x r (Done n why) t h = subst (λ (s : Reply). Turn store old new (event_of i (actions.Commit x) s)) h t
turn_commits store old new i x r (Conflict n y) t h = subst (λ (s : Reply). Turn store old new (event_of i (actions.Commit x) s)) h t
turn_commits store old new i x r (FullTriples n) t h = subst (λ (s : Reply). Turn store old new (event_of i (actions.Commit x) s)) h t
turn_commits store old new i x r LogFault t h = subst (λ (s : Reply). Turn store old new (event_of i (actions.Commit x) s)) h t
turn_commits store old new i x r (Stopped n) t h = subst (λ (s : Reply). Turn store old new (event_of i (actions.Commit x) s)) h t
turn_commits store old new i x r (Refused rows why shapes) t h =
    subst (λ (s : Reply). (u : Turn store old new (event_of i (actions.Commit x) s)) × (shapes ≡ shapes_under u.before.shapes x.staged) × Listing (after u.before.graph x.net) shapes rows) h.0 (t, h.1, h.2)

-- and how many evaluations it counted
pub turn_counts : (store : SharedStore) (old new : Caller Event Origin) (i : ℕ) (x : Transaction) (r : Reply) (a : Committed) (counted now : ℕ) (t : Turn store old new (event_of i (actions.Commit x) r)) → IsAnswer t.before x r a → CountsFor a t.before x counted now → TurnCounts store old new i x counted now a
turn_counts store old new i x r (ReadOnly v) counted now t h k = k
turn_counts store old new i x r (Done n why) counted now t h k = subst (λ (s : Reply). (u : Turn store old new (event_of i (actions.Commit x) s)) × StepsBy why u.before.graph u.before.shapes x counted now) h (t, k)
turn_counts store old new i x r (Conflict n y) counted now t h k = k
turn_counts store old new i x r (FullTriples n) counted now t h k = k
turn_counts store old new i x r LogFault counted now t h k = subst (λ (s : Reply). (u : Turn store old new (event_of i (actions.Commit x) s)) × StepsBy (again u.before.commits x.staged x.verdict) u.before.graph u.before.shapes x counted now) h (t, k)
turn_counts store old new i x r (Stopped n) counted now t h k = k
turn_counts store old new i x r (Refused rows why shapes) counted now t h k = subst (λ (s : Reply). (u : Turn store old new (event_of i (actions.Commit x) s)) × StepsBy why u.before.graph u.before.shapes x counted now) h.0 (t, k)

-- a commit that only reads counts none, nor does that of no transaction
pub reading_counts : (store : SharedStore) (old new : StoreSession) (n : ℕ) (r : Result Committed CommitFault) → EndsReading old new r → CommitCounts store old new n n r
reading_counts store old new n (Ok a) h = (h.0, h.1, subst (λ (b : Committed). TurnCounts store old.pass new.pass old.number (committing h.0) n n b) (sym h.2) refl)
reading_counts store old new n (Err fault) h = subst (λ (f : CommitFault). CommitCounts store old new n n (Err f)) (sym h.1) refl

answers_now : (store : SharedStore) (old : StoreSession) (pass : Caller Event Origin) (w : OpenTransaction) (a : Committed) (new : StoreSession) → new.pass ≡ pass → HasChange w.transaction.net w.transaction.staged → TurnCommits store old.pass pass old.number (committing w) a → AnswersCommit store old new w a
answers_now store old pass w (ReadOnly v) new e h t = absurd t
answers_now store old pass w (Done n why) new e h t = (h, subst (λ (c : Caller Event Origin). TurnCommits store old.pass c old.number (committing w) (Done n why)) (sym e) t)
answers_now store old pass w (Conflict n x) new e h t = (h, subst (λ (c : Caller Event Origin). TurnCommits store old.pass c old.number (committing w) (Conflict n x)) (sym e) t)
answers_now store old pass w (FullTriples n) new e h t = (h, subst (λ (c : Caller Event Origin). TurnCommits store old.pass c old.number (committing w) (FullTriples n)) (sym e) t)
answers_now store old pass w LogFault new e h t = (h, subst (λ (c : Caller Event Origin). TurnCommits store old.pass c old.number (committing w) LogFault) (sym e) t)
answers_now store old pass w (Stopped n) new e h t = (h, subst (λ (c : Caller Event Origin). TurnCommits store old.pass c old.number (committing w) (Stopped n)) (sym e) t)
answers_now store old pass w (Refused rows why shapes) new e h t = (h, subst (λ (c : Caller Event Origin). TurnCommits store old.pass c old.number (committing w) (Refused rows why shapes)) (sym e) t)

pub commits_now : (store : SharedStore) (old : StoreSession) (pass : Caller Event Origin) (w : OpenTransaction) (a : Committed) (new : StoreSession) → IsOpen old w → HasChange w.transaction.net w.transaction.staged → TurnCommits store old.pass pass old.number (committing w) a
    → new ≡ record old { pass = pass; current = None; head = None } → Commits store old new a
commits_now store old pass w a new o h t e =
    (w, o, answers_now store old pass w a new (ap (λ s. s.pass) e) h t, e ∙ ap (λ (c : Caller Event Origin). let s : StoreSession = record old { pass = c; current = None; head = None } in s) (sym (ap (λ s. s.pass) e)))

-- once the terms of a block were named, it is staged
pub stages_now : (store : SharedStore) (old mid new : StoreSession) (kind : NameKind) (ts : List Triple) (f : OpenTransaction → OpenTransaction) → NamesFor store old mid kind ts → ((w : OpenTransaction) → mid.current ≡ Some w → new ≡ record mid { current = Some (f w); head = None }) → Stages store old new kind ts f
stages_now store old mid new kind ts f n h =
    let w = n.0.0 in
    let e = h w (ap (λ s. s.current) n.2 ∙ n.0.1) in
    let same : new.pass ≡ mid.pass = ap (λ s. s.pass) e in
    let turn : Turn store old.pass new.pass (naming_of old.number kind ts replies.Named) = subst (λ (c : Caller Event Origin). Turn store old.pass c (naming_of old.number kind ts replies.Named)) (sym same) n.1 in
    let one : new ≡ record old { pass = mid.pass; current = Some (f w); head = None } = e ∙ ap (λ (s : StoreSession). let t : StoreSession = record s { current = Some (f w); head = None } in t) n.2 in
    (w, n.0.1, turn, one ∙ ap (λ (c : Caller Event Origin). let t : StoreSession = record old { pass = c; current = Some (f w); head = None } in t) (sym same))

not_staged : (store : SharedStore) (old mid new : StoreSession) (kind : NameKind) (ts : List Triple) → NamesFor store old mid kind ts → new ≡ mid → NamesForNot attaches.Memory store old new kind ts
not_staged store old mid new kind ts n e = subst (λ (s : StoreSession). NamesForNot attaches.Memory store old s kind ts) (sym e) (n.0, inr n.1, n.2)

pub stage_now : {U : Type 0} (store : SharedStore) (old mid new : StoreSession) (kind : NameKind) (ts : List Triple) (f : OpenTransaction → OpenTransaction) (r : Result U AttachFault) → NamesFor store old mid kind ts
    → MatchResult r (λ _. (w : OpenTransaction) → mid.current ≡ Some w → new ≡ record mid { current = Some (f w); head = None }) (λ fault. (fault ≡ attaches.Memory) × (new ≡ mid)) → MatchResult r (λ _. Stages store old new kind ts f) (λ fault. NamesForNot fault store old new kind ts)
stage_now {U} store old mid new kind ts f (Ok u) n h = stages_now store old mid new kind ts f n h
stage_now {U} store old mid new kind ts f (Err fault) n h = subst (λ (x : AttachFault). NamesForNot x store old new kind ts) (sym h.0) (not_staged store old mid new kind ts n h.1)

pub stage_session : {U : Type 0} (store : SharedStore) (old new : StoreSession) (kind : NameKind) (k : ChangeKind) (ts : List Triple) (r : Result U AttachFault) → AllByRecursion (IsReadable IsStored) ts → IsSession store old
    → MatchResult r (λ _. Stages store old new kind ts (λ w. with_changes w (changes_of k ts))) (λ fault. NamesForNot fault store old new kind ts) → IsSession store new
stage_session {U} store old new kind k ts (Ok u) read is h = stages_session store old new kind k ts read is h
stage_session {U} store old new kind k ts (Err fault) read is h = not_staged_session store old new kind ts fault is h

-- the transaction that is open
pub open_now : (w : Option OpenTransaction) → w ≢ None → (x : OpenTransaction) × (w ≡ Some x)
open_now None some = absurd (some refl)
open_now (Some x) some = (x, refl)

pub not_none : (w : Option OpenTransaction) → (x : OpenTransaction) × (w ≡ Some x) → w ≢ None
not_none w o none = let z : Some o.0 ≡ None = sym o.1 ∙ none in cc

-- nothing was named where there was no memory for the block
pub never_named : (store : SharedStore) (s : StoreSession) (kind : NameKind) (ts : List Triple) → (w : OpenTransaction) × IsOpen s w → NamesForNot attaches.Memory store s s kind ts
never_named store s kind ts o = (o, inl (inl refl), refl)

-- a transaction is open once the terms were named
pub named_open : (store : SharedStore) (old mid : StoreSession) (kind : NameKind) (ts : List Triple) → NamesFor store old mid kind ts → mid.current ≢ None
named_open store old mid kind ts n none = let z : Some n.0.0 ≡ None = sym (ap (λ s. s.current) n.2 ∙ n.0.1) ∙ none in cc

module _ (store : SharedStore) (old new : Caller Event Origin) (i : ℕ) (kind : NameKind) (ts : List Term) (f : NamingFault) where
  pub names_unknown : (node : Term) → f ≡ names.Unknown node → NamesNot f store old new i kind ts → Turn store old new (event_of i (actions.Name kind ts) (replies.Unknown node))
  names_unknown node e h = subst (λ (x : NamingFault). NamesNot x store old new i kind ts) e h

  pub names_full : (n : ℕ) → f ≡ names.Full n → NamesNot f store old new i kind ts → Turn store old new (event_of i (actions.Name kind ts) (replies.Full n))
  names_full n e h = subst (λ (x : NamingFault). NamesNot x store old new i kind ts) e h

  pub names_failed : f ≡ names.Memory → NamesNot f store old new i kind ts → Fails store old new i
  names_failed e h = subst (λ (x : NamingFault). NamesNot x store old new i kind ts) e h

-- a block whose blank nodes need not have been given out is never refused for one of them
none_unknown : (store : SharedStore) (old new : StoreSession) (kind : NameKind) (ts : List Triple) → kind ≢ kinds.Attach → (node : Term) → NamesForNot (attaches.Unknown node) store old new kind ts → ⊥
none_unknown store old new kind ts other node h = other (unknown_attaches store.limits h.1.before h.1.after old.number kind (parts_of ts) node h.1.step)

pub never_unknown : {U : Type 0} (store : SharedStore) (old new : StoreSession) (kind : NameKind) (ts : List Triple) (P : U → Type 0) (r : Result U AttachFault) → kind ≢ kinds.Attach → MatchResult r P (λ fault. NamesForNot fault store old new kind ts)
    → (node : Term) → r ≢ Err (attaches.Unknown node)
never_unknown {U} store old new kind ts P r other h node e = none_unknown store old new kind ts other node (at_err P (λ fault. NamesForNot fault store old new kind ts) r (attaches.Unknown node) e h)

-- what is told of such a block
pub staged_answer : {U : Type 0} (store : SharedStore) (old new : StoreSession) (kind : NameKind) (ts : List Triple) (P : U → Type 0) (r : Result U AttachFault) (q : Result U StageFault) → r ≡ attach_answer q → MatchResult r P (λ fault. NamesForNot fault store old new kind ts)
    → MatchResult q P (λ fault. StagesNot fault store old new kind ts)
staged_answer {U} store old new kind ts P r (Ok u) e h = at_ok P (λ fault. NamesForNot fault store old new kind ts) r u e h
staged_answer {U} store old new kind ts P r (Err f) e h = at_err P (λ fault. NamesForNot fault store old new kind ts) r (attach_fault f) e h

-- A block is attached where each of its blank nodes was given out. These are three cases of the plain store's step.
attached_by : (nodes : List Term) (l : Limits) (s t : State) (ts : List Term) (r : Reply) → (r ≡ replies.Named) ⊎ ((n : ℕ) × (r ≡ replies.Full n)) → NamesUnless nodes l s kinds.Attach ts r t → nodes ≡ []
attached_by [] l s t ts r is h = refl
attached_by (x ∷ more) l s t ts r is h = absurd (⊎_elim
    (λ (e : r ≡ replies.Named). let z : replies.Named ≡ replies.Unknown x = sym e ∙ h.0 in let no : ⊥ = cc in no)
    (λ (e : (n : ℕ) × (r ≡ replies.Full n)). let z : replies.Full e.0 ≡ replies.Unknown x = sym e.1 ∙ h.0 in let no : ⊥ = cc in no) is)

unknown_by_step : (nodes : List Term) (l : Limits) (s t : State) (ts : List Term) (node : Term) → NamesUnless nodes l s kinds.Attach ts (replies.Unknown node) t → (more : List Term) × (nodes ≡ node ∷ more)
unknown_by_step [] l s t ts node h = absurd (limited (nat_lt (l.terms + 2) (length (named_with s.named ts))) h)
  where
    limited : (b : Bool) → MatchBool b (Replies (replies.Full (length (named_with s.named ts) - 2)) s (replies.Unknown node) t) (Replies replies.Named (with_named s kinds.Attach ts) (replies.Unknown node) t) → ⊥
    limited true h = let z = h.0 in cc
    limited false h = let z = h.0 in cc
unknown_by_step (x ∷ more) l s t ts node h = (more, ap (λ y. y ∷ more) (let e : replies.Unknown node ≡ replies.Unknown x = h.0 in let same : x ≡ node = cc in same))

pub attaches_now : (store : SharedStore) (old new : StoreSession) (ts : List Triple) → Stages store old new kinds.Attach ts (λ w. with_changes w (additions ts)) → Attaches store old new ts
attaches_now store old new ts b =
    let t = b.2 in
    (b.0, b.1, (t, attached_by (unknown_at t.before ts) store.limits t.before t.after (parts_of ts) replies.Named (inl refl) t.step.1), b.3)

pub attaches_not : (store : SharedStore) (old new : StoreSession) (ts : List Triple) (f : AttachFault) → NamesForNot f store old new kinds.Attach ts → AttachesNot f store old new ts
attaches_not store old new ts attaches.NoTransaction b = b
attaches_not store old new ts (attaches.Unknown node) b =
    let t = b.1 in
    (b.0, (t, unknown_by_step (unknown_at t.before ts) store.limits t.before t.after (parts_of ts) node t.step.1, after_unnamed store.limits t.before t.after old.number kinds.Attach (parts_of ts) (replies.Unknown node) (λ e. cc) t.step), b.2)
attaches_not store old new ts (attaches.Full n) b =
    let t = b.1 in (
      b.0,
      (
        t,
        attached_by (unknown_at t.before ts) store.limits t.before t.after (parts_of ts) (replies.Full n) (inr (n, refl)) t.step.1,
        after_unnamed store.limits t.before t.after old.number kinds.Attach (parts_of ts) (replies.Full n) (λ e. cc) t.step,
      ),
      b.2,
    )
attaches_not store old new ts attaches.Memory b = b

pub attach_answered : {U : Type 0} (store : SharedStore) (old new : StoreSession) (ts : List Triple) (r : Result U AttachFault)
    → MatchResult r (λ _. Stages store old new kinds.Attach ts (λ w. with_changes w (additions ts))) (λ fault. NamesForNot fault store old new kinds.Attach ts) → MatchResult r (λ _. Attaches store old new ts) (λ fault. AttachesNot fault store old new ts)
attach_answered {U} store old new ts (Ok u) h = attaches_now store old new ts h
attach_answered {U} store old new ts (Err f) h = attaches_not store old new ts f h

-- and of a block, by its kind
fault_staged : (store : SharedStore) (old new : StoreSession) (kind : NameKind) (ts : List Triple) (f : AttachFault) → kind ≢ kinds.Attach → NamesForNot f store old new kind ts → (g : StageFault) × (f ≡ attach_fault g) × StagesNot g store old new kind ts
fault_staged store old new kind ts attaches.NoTransaction other h = (stages.NoTransaction, refl, h)
fault_staged store old new kind ts (attaches.Unknown node) other h = absurd (none_unknown store old new kind ts other node h)
fault_staged store old new kind ts (attaches.Full n) other h = (stages.Full n, refl, h)
fault_staged store old new kind ts attaches.Memory other h = (stages.Memory, refl, h)

pub block_answered : {U : Type 0} (store : SharedStore) (old new : StoreSession) (k : ChangeKind) (ts : List Triple) (r : Result U AttachFault)
    → MatchResult r (λ _. Stages store old new (name_kind_of k) ts (λ w. with_changes w (changes_of k ts))) (λ fault. NamesForNot fault store old new (name_kind_of k) ts)
    → MatchResult r (λ _. StagesBlock k store old new ts) (λ fault. StagesBlockNot k fault store old new ts)
block_answered {U} store old new Addition ts (Ok u) h = h
block_answered {U} store old new Addition ts (Err f) h = fault_staged store old new kinds.Fresh ts f (λ e. cc) h
block_answered {U} store old new Removal ts (Ok u) h = h
block_answered {U} store old new Removal ts (Err f) h = fault_staged store old new kinds.Known ts f (λ e. cc) h
block_answered {U} store old new Attachment ts r h = attach_answered store old new ts r h

pub closed_block : (store : SharedStore) (s : StoreSession) (k : ChangeKind) (ts : List Triple) → s.current ≡ None → StagesBlockNot k attaches.NoTransaction store s s ts
closed_block store s Addition ts none = (stages.NoTransaction, refl, (none, refl))
closed_block store s Removal ts none = (stages.NoTransaction, refl, (none, refl))
closed_block store s Attachment ts none = (none, refl)
