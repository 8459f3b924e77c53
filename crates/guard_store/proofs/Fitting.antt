-- A session stays one of its store: its transaction fits each state to which what it has seen leads.
use Rattle.std.proofs.Common.{◌≡◌, ◌∙◌, ℕ, ◌≤◌, Bool, List, ◌∷◌, [], ◌++◌, Option, Some, None, refl, sym, ap, subst, ⊎_elim, arith}
use Rattle.turn_lock.specs.Callers.{Caller}
use Rattle.rdf_model.specs.declared.triple.Triple.{Triple}
use Rattle.store_model.specs.declared.event.Limits.{Limits}
use Rattle.store_model.specs.declared.event.Event.{Event}
use Rattle.store_model.specs.declared.event.NameKind.{NameKind}
use Rattle.store_model.specs.declared.event.NameKind.TheVariants as kinds
use Rattle.store_model.specs.declared.event.Action.TheVariants as actions
use Rattle.store_model.specs.declared.event.Reply.TheVariants as replies
use Rattle.rdf_model.specs.declared.change.Change.{Change}
use Rattle.rdf_model.specs.declared.pattern.Pattern.{Pattern}
use Rattle.kept_rows.specs.declared.pair_rows.PairRows.{PairRows}
use Rattle.store_model.specs.declared.commit.Transaction.{Transaction}
use Rattle.store_model.specs.declared.commit.Verdict.{Verdict}
use Rattle.store_model.specs.Snapshots.{Snapshot, snapshot_of}
use Rattle.store_model.specs.Store.{State, RecordedStore, version, with_named, changed_triple, HasChange, IsCommittable, NetNamed}
use Rattle.commit_core.specs.Verdicts.{AreOfVerdict, AreOfVerdictIn}
use Rattle.commit_core.proofs.Verdicts.{pairs_last}
use Rattle.session_transaction.specs.Checks.{IsVersionIn, KeepsIn, committing, pairs_of, verdict_of}
use Rattle.session_transaction.proofs.Checking.{check_keeps, check_same, committable_kept, committable_more, keeps_last, pairs_kept, version_lasts, version_now}
use Rattle.store_model.proofs.Histories.{Replays-push}
use Rattle.std.specs.List.{AllByRecursion}
use Rattle.session_model.specs.Sessions.{additions, parts_of, removals}
use Rattle.guard_store.specs.Slots.{Origin}
use Rattle.guard_store.specs.Sessions.{StoreSession}
use Rattle.guard_store.specs.declared.faults.BeginFault.{BeginFault}
use Rattle.guard_store.specs.declared.faults.BeginFault.TheVariants as begins
use Rattle.guard_store.specs.declared.faults.StageFault.{StageFault}
use Rattle.guard_store.specs.declared.faults.AttachFault.{AttachFault}
use Rattle.guard_store.specs.declared.faults.AttachFault.TheVariants as attaches
use Rattle.guard_store.specs.declared.faults.HeadFault.{HeadFault}
use Rattle.guard_store.specs.declared.faults.HeadFault.TheVariants as heads
use Rattle.guard_store.specs.declared.faults.CommitFault.{CommitFault}
use Rattle.guard_store.specs.declared.faults.CommitFault.TheVariants as commits
use Rattle.session_transaction.specs.declared.committing.Committed.{Committed}
use Rattle.session_transaction.specs.declared.committing.Committed.TheVariants.{ReadOnly, Done, Conflict, FullTriples, Refused, LogFault, Stopped}
use Rattle.session_transaction.specs.declared.transaction.OpenTransaction.{OpenTransaction}
use Rattle.session_transaction.specs.declared.transaction.ChangeKind.{ChangeKind}
use Rattle.session_transaction.specs.declared.transaction.ChangeKind.TheVariants.{Addition, Removal, Attachment}
use Rattle.ntriples_text.specs.Laws.{IsReadable, IsStored}
use Rattle.record_text.specs.Records.{HasReadableShapes, IsReadableGraph}
use Rattle.commit_core.specs.Logged.{IsLoggable}
use Rattle.session_transaction.specs.Transactions.{FitsState, begun_at, changes_of, with_changes, with_find, with_finds, with_shapes}
use Rattle.session_transaction.proofs.Growing.{More}
use Rattle.session_transaction.proofs.Fitting.{after_named, fits_changes, fits_shapes, state_more}
use Rattle.guard_store.specs.Fronts.{SharedStore, Turn, Fails, At, Entered, void_of}
use Rattle.guard_store.specs.Callers.{IsCaller, IsSession, FitsIn, HeadIn, KeptIn}
use Rattle.guard_store.specs.Answers.{Begins, BeginsNot, NamesForNot, Stages, StagesNot, Heads, HeadsNot, ChecksHead, Commits, CommitsNot, AnswersCommit, attach_fault, event_of, naming_of}
use Rattle.guard_store.proofs.Growing.{at_this, still_at}
use Rattle.guard_store.proofs.Turning.{front_is, turned_at, caller_turned, now_at}

pub fits_more : (w : Option OpenTransaction) (s t : State) → More s t → FitsIn w s → FitsIn w t
fits_more None s t m f = tt
fits_more (Some w) s t m f = state_more w.transaction s t m f

-- in its turn the transaction may be committed
pub committable_now : (store : SharedStore) (pass held : Caller Event Origin) (core : RecordedStore) (x : Transaction) → Entered store pass held core → At store pass.known.front (λ s. IsCommittable s x) → IsCommittable core.state x
committable_now store pass held core x n f = now_at store pass held core (λ s. IsCommittable s x) (committable_more x) n f

-- and its verdict is one of what the turn found
pub verdict_now : (store : SharedStore) (pass held : Caller Event Origin) (core : RecordedStore) (net : List Change) (v : Option Verdict) (pairs : List PairRows) → Entered store pass held core → AreOfVerdictIn store.limits store.start pass.known.front net v pairs → AreOfVerdict core net v pairs
verdict_now store pass held core net v pairs n a =
    let seen : AreOfVerdictIn store.limits store.start core.history net v pairs = subst (λ (es : List Event). AreOfVerdictIn store.limits store.start es net v pairs) n.others.begins.1 (pairs_last store.limits store.start pass.known.front n.others.begins.0 net v pairs a) in
    subst (λ (k : Limits). AreOfVerdictIn k core.start core.history net v pairs) (sym n.limits) (subst (λ (s : State). AreOfVerdictIn store.limits s core.history net v pairs) (sym n.start) seen)

-- what is kept of a check stays so when what was seen grows, and so does the version of the head
kept_last : (store : SharedStore) (w : Option OpenTransaction) (a b : List Event) → KeptIn store a w → KeptIn store (a ++ b) w
kept_last store None a b k = tt
kept_last store (Some w) a b k = (k.0, keeps_last store.limits store.start a b w.transaction.net w.checked k.1, k.2)

head_last : (store : SharedStore) (w : Option OpenTransaction) (h : Option Snapshot) (a b : List Event) → HeadIn store a w h → HeadIn store (a ++ b) w h
head_last store None h a b k = tt
head_last store (Some w) None a b k = tt
head_last store (Some w) (Some n) a b k = (version_lasts store.limits store.start a b n k.0, k.1)

-- what stays when what was seen grows, after a turn
turned_front : (store : SharedStore) (old new : Caller Event Origin) (e : Event) (P : List Event → Type 0) → ((a b : List Event) → P a → P (a ++ b)) → Turn store old new e → P old.known.front → P new.known.front
turned_front store old new e P keeps t p =
    subst P (sym (front_is store old new e t)) (keeps t.seen (e ∷ []) (subst P t.others.begins.1 (keeps old.known.front t.others.begins.0 p)))

-- the transaction still fits, after a turn
fits_turned : (store : SharedStore) (old new : Caller Event Origin) (e : Event) (w : Option OpenTransaction) → Turn store old new e → At store old.known.front (FitsIn w) → At store new.known.front (FitsIn w)
fits_turned store old new e w t f = turned_at store old new e (FitsIn w) (fits_more w) t f

-- in its turn it fits the store
pub fits_before : (store : SharedStore) (old new : Caller Event Origin) (e : Event) (w : Option OpenTransaction) (t : Turn store old new e) → At store old.known.front (FitsIn w) → FitsIn w t.before
fits_before store old new e w t f =
    subst (λ (x : List Event). At store x (FitsIn w)) t.others.begins.1 (still_at store (FitsIn w) (fits_more w) old.known.front t.others.begins.0 f) t.before t.replays

-- what fits the state after the turn
fits_after : (store : SharedStore) (old new : Caller Event Origin) (e : Event) (w : Option OpenTransaction) (t : Turn store old new e) → FitsIn w t.after → At store new.known.front (FitsIn w)
fits_after store old new e w t f = subst (λ (x : List Event). At store x (FitsIn w)) (sym (front_is store old new e t))
    (at_this store (FitsIn w) (t.seen ++ e ∷ []) t.after (Replays-push store.limits store.start t.seen t.before t.after e t.replays t.step) f)

-- what a session keeps of its head and its check
abbrev Stands : SharedStore → List Event → Option OpenTransaction → Option Snapshot → Type 0
Stands store front w h = KeptIn store front w × HeadIn store front w h

stands : (store : SharedStore) (s : StoreSession) → IsSession store s → Stands store s.pass.known.front s.current s.head
stands store s is = (is.kept, is.head)

-- a session after a turn, with this transaction and this head
session_with : (store : SharedStore) (old new : StoreSession) (e : Event) (w : Option OpenTransaction) (h : Option Snapshot) → IsSession store old → Turn store old.pass new.pass e → new.number ≡ old.number → new.current ≡ w → new.head ≡ h → At store new.pass.known.front (FitsIn w)
    → Stands store new.pass.known.front w h → IsSession store new
session_with store old new e w h is t n c d f k = record {
  caller = subst (λ (i : ℕ). IsCaller store i new.pass) (sym n) (caller_turned store old.number old.pass new.pass e is.caller t);
  fits = subst (λ (x : Option OpenTransaction). At store new.pass.known.front (FitsIn x)) (sym c) f;
  kept = subst (KeptIn store new.pass.known.front) (sym c) k.0;
  head = subst (λ (x : Option OpenTransaction). HeadIn store new.pass.known.front x new.head) (sym c) (subst (HeadIn store new.pass.known.front w) (sym d) k.1);
}

stands_turned : (store : SharedStore) (old new : Caller Event Origin) (e : Event) (w : Option OpenTransaction) (h : Option Snapshot) → Turn store old new e → Stands store old.known.front w h → Stands store new.known.front w h
stands_turned store old new e w h t k = (turned_front store old new e (λ es. KeptIn store es w) (kept_last store w) t k.0, turned_front store old new e (λ es. HeadIn store es w h) (head_last store w h) t k.1)

session_turned : (store : SharedStore) (old new : StoreSession) (e : Event) → IsSession store old → Turn store old.pass new.pass e → new.number ≡ old.number → new.current ≡ old.current → new.head ≡ old.head → IsSession store new
session_turned store old new e is t n c d =
    session_with store old new e old.current old.head is t n c d (fits_turned store old.pass new.pass e old.current t is.fits) (stands_turned store old.pass new.pass e old.current old.head t (stands store old is))

-- a turn with no transaction after it
session_free : (store : SharedStore) (old new : StoreSession) (e : Event) → IsSession store old → Turn store old.pass new.pass e → new.number ≡ old.number → new.current ≡ None → IsSession store new
session_free store old new e is t n c = session_with store old new e None new.head is t n c refl (λ s r. tt) (tt, tt)

-- no turn, with this transaction and this head
session_kept : (store : SharedStore) (old new : StoreSession) (w : Option OpenTransaction) (h : Option Snapshot) → IsSession store old → new.pass ≡ old.pass → new.number ≡ old.number → new.current ≡ w → new.head ≡ h → At store old.pass.known.front (FitsIn w) → Stands store old.pass.known.front w h → IsSession store new
session_kept store old new w h is p n c d f k = record {
  caller = subst (λ (i : ℕ). IsCaller store i new.pass) (sym n) (subst (IsCaller store old.number) (sym p) is.caller);
  fits = subst (λ (x : Option OpenTransaction). At store new.pass.known.front (FitsIn x)) (sym c) (subst (λ (y : Caller Event Origin). At store y.known.front (FitsIn w)) (sym p) f);
  kept = subst (KeptIn store new.pass.known.front) (sym c) (subst (λ (y : Caller Event Origin). KeptIn store y.known.front w) (sym p) k.0);
  head = subst (λ (x : Option OpenTransaction). HeadIn store new.pass.known.front x new.head) (sym c)
      (subst (HeadIn store new.pass.known.front w) (sym d) (subst (λ (y : Caller Event Origin). HeadIn store y.known.front w h) (sym p) k.1));
}

session_still : (store : SharedStore) (old new : StoreSession) → IsSession store old → new.pass ≡ old.pass → new.number ≡ old.number → new.current ≡ old.current → new.head ≡ old.head → IsSession store new
session_still store old new is p n c d = session_kept store old new old.current old.head is p n c d is.fits (stands store old is)

pub session_ended : (store : SharedStore) (old new : StoreSession) → IsSession store old → new.pass ≡ old.pass → new.number ≡ old.number → new.current ≡ None → IsSession store new
session_ended store old new is p n c = session_kept store old new None new.head is p n c refl (λ s r. tt) (tt, tt)

session_failed : (store : SharedStore) (old new : StoreSession) → IsSession store old → Fails store old.pass new.pass old.number → new.number ≡ old.number → new.current ≡ old.current → new.head ≡ old.head → IsSession store new
session_failed store old new is f n c d = ⊎_elim
    (λ (same : new.pass ≡ old.pass). session_still store old new is same n c d)
    (λ (turn : Turn store old.pass new.pass (void_of old.number)). session_turned store old new (void_of old.number) is turn n c d) f

pub begins_session : (store : SharedStore) (old new : StoreSession) (v : ℕ) → IsSession store old → Begins store old new v → IsSession store new
begins_session store old new v is b =
    let t = b.1.0 in
    let e : Event = event_of old.number actions.Begin (replies.Version v) in
    let w : OpenTransaction = begun_at (snapshot_of store.limits.mode t.before) in
    let same : t.after ≡ t.before = t.step.1.1 in
    let fits : FitsState w.transaction t.after = record { base = subst (λ (x : State). version t.before ≤ version x) (sym same) (omega arith); net = tt; staged = tt; verdict = refl } in
    session_with store old new e (Some w) None is t (ap (λ s. s.number) b.1.1) (ap (λ s. s.current) b.1.1) (ap (λ s. s.head) b.1.1) (fits_after store old.pass new.pass e (Some w) t fits) ((refl, tt, record { net = tt; staged = tt }), tt)

pub begins_not_session : (store : SharedStore) (old new : StoreSession) (f : BeginFault) → IsSession store old → BeginsNot f store old new → IsSession store new
begins_not_session store old new begins.AlreadyOpen is b = subst (IsSession store) (sym b.1) is
begins_not_session store old new begins.Memory is b = session_failed store old new is b.1 (ap (λ s. s.number) b.2) (ap (λ s. s.current) b.2) (ap (λ s. s.head) b.2)

pub open_kept : (store : SharedStore) (s : StoreSession) (w : OpenTransaction) → IsSession store s → s.current ≡ Some w → (w.transaction.verdict ≡ None) × KeepsIn store.limits store.start s.pass.known.front w.transaction.net w.checked × IsLoggable w.transaction
open_kept store s w is o = subst (KeptIn store s.pass.known.front) o is.kept

pub open_fits : (store : SharedStore) (s : StoreSession) (w : OpenTransaction) → IsSession store s → s.current ≡ Some w → At store s.pass.known.front (FitsIn (Some w))
open_fits store s w is o = subst (λ (x : Option OpenTransaction). At store s.pass.known.front (FitsIn x)) o is.fits

-- the changes of a block whose triples can be read
all_append : {A : Type 0} (P : A → Type 0) (xs ys : List A) → AllByRecursion P xs → AllByRecursion P ys → AllByRecursion P (xs ++ ys)
all_append {A} P [] ys h k = k
all_append {A} P (x ∷ xs) ys h k = (h.0, all_append P xs ys h.1 k)

additions_read : (ts : List Triple) → AllByRecursion (IsReadable IsStored) ts → AllByRecursion (λ c. IsReadable IsStored (changed_triple c)) (additions ts)
additions_read [] h = tt
additions_read (t ∷ ts) h = (h.0, additions_read ts h.1)

removals_read : (ts : List Triple) → AllByRecursion (IsReadable IsStored) ts → AllByRecursion (λ c. IsReadable IsStored (changed_triple c)) (removals ts)
removals_read [] h = tt
removals_read (t ∷ ts) h = (h.0, removals_read ts h.1)

changes_read : (k : ChangeKind) (ts : List Triple) → AllByRecursion (IsReadable IsStored) ts → AllByRecursion (λ c. IsReadable IsStored (changed_triple c)) (changes_of k ts)
changes_read Addition ts h = additions_read ts h
changes_read Removal ts h = removals_read ts h
changes_read Attachment ts h = additions_read ts h

-- a session whose block was staged
staged_session : (store : SharedStore) (old new : StoreSession) (kind : NameKind) (ts : List Triple) (f : OpenTransaction → OpenTransaction) → IsSession store old → Stages store old new kind ts f
    → ((w : OpenTransaction) → ((f w).checked ≡ None) × ((f w).transaction.verdict ≡ w.transaction.verdict)) → ((w : OpenTransaction) → IsLoggable w.transaction → IsLoggable (f w).transaction) → ((w : OpenTransaction) (s t : State) → t ≡ with_named s kind (parts_of ts) → FitsState w.transaction s → FitsState (f w).transaction t) → IsSession store new
staged_session store old new kind ts f is b drops logs keeps =
    let w = b.0 in
    let t = b.2 in
    let h = b.3 in
    let e : Event = naming_of old.number kind ts replies.Named in
    let fits : FitsState w.transaction t.before = fits_before store old.pass new.pass e (Some w) t (open_fits store old w is b.1) in
    session_with store old new e (Some (f w)) None is t (ap (λ s. s.number) h) (ap (λ s. s.current) h) (ap (λ s. s.head) h)
    (fits_after store old.pass new.pass e (Some (f w)) t (keeps w t.before t.after (after_named store.limits t.before t.after old.number kind ts t.step) fits))
    (((drops w).1 ∙ (open_kept store old w is b.1).0, subst (KeepsIn store.limits store.start new.pass.known.front (f w).transaction.net) (sym (drops w).0) tt, logs w (open_kept store old w is b.1).2), tt)

pub stages_session : (store : SharedStore) (old new : StoreSession) (kind : NameKind) (k : ChangeKind) (ts : List Triple) → AllByRecursion (IsReadable IsStored) ts → IsSession store old → Stages store old new kind ts (λ w. with_changes w (changes_of k ts)) → IsSession store new
stages_session store old new kind k ts read is b = staged_session store old new kind ts (λ w. with_changes w (changes_of k ts)) is b (λ w. (refl, refl)) (λ w l. record { net = all_append (λ c. IsReadable IsStored (changed_triple c)) w.transaction.net (changes_of k ts) l.net (changes_read k ts read); staged = l.staged }) (λ w s t e f. fits_changes w.transaction s t kind k ts e f)

pub stages_shapes_session : (store : SharedStore) (old new : StoreSession) (ts : List Triple) → IsReadableGraph ts → IsSession store old → Stages store old new kinds.Fresh ts (λ w. with_shapes w ts) → IsSession store new
stages_shapes_session store old new ts read is b = staged_session store old new kinds.Fresh ts (λ w. with_shapes w ts) is b (λ w. (refl, refl)) (λ w l. record { net = l.net; staged = read }) (λ w s t e f. fits_shapes w.transaction s t kinds.Fresh ts e f)

-- a session none of whose block was staged
pub not_staged_session : (store : SharedStore) (old new : StoreSession) (kind : NameKind) (ts : List Triple) (f : AttachFault) → IsSession store old → NamesForNot f store old new kind ts → IsSession store new
not_staged_session store old new kind ts attaches.NoTransaction is b = subst (IsSession store) (sym b.1) is
not_staged_session store old new kind ts (attaches.Unknown node) is b = session_turned store old new (naming_of old.number kind ts (replies.Unknown node)) is b.1 (ap (λ s. s.number) b.2) (ap (λ s. s.current) b.2) (ap (λ s. s.head) b.2)
not_staged_session store old new kind ts (attaches.Full n) is b = session_turned store old new (naming_of old.number kind ts (replies.Full n)) is b.1 (ap (λ s. s.number) b.2) (ap (λ s. s.current) b.2) (ap (λ s. s.head) b.2)
not_staged_session store old new kind ts attaches.Memory is b = ⊎_elim
    (λ (f : Fails store old.pass new.pass old.number). session_failed store old new is f (ap (λ s. s.number) b.2) (ap (λ s. s.current) b.2) (ap (λ s. s.head) b.2))
    (λ (t : Turn store old.pass new.pass (naming_of old.number kind ts replies.Named)). session_turned store old new (naming_of old.number kind ts replies.Named) is t (ap (λ s. s.number) b.2) (ap (λ s. s.current) b.2) (ap (λ s. s.head) b.2))
    b.1

pub stages_not_session : (store : SharedStore) (old new : StoreSession) (kind : NameKind) (ts : List Triple) (f : StageFault) → IsSession store old → StagesNot f store old new kind ts → IsSession store new
stages_not_session store old new kind ts f is b = not_staged_session store old new kind ts (attach_fault f) is b

pub heads_session : (store : SharedStore) (old new : StoreSession) (v : ℕ) → IsSession store old → Heads store old new v → IsSession store new
heads_session store old new v is b =
    let w = b.0.0 in
    let t = b.1.0 in
    let e : Event = event_of old.number actions.Head (replies.Version v) in
    let fits = open_fits store old w is b.0.1 in
    let now : FitsState w.transaction t.before = fits_before store old.pass new.pass e (Some w) t fits in
    let version : IsVersionIn store.limits store.start new.pass.known.front (snapshot_of store.limits.mode t.before) = subst (λ (es : List Event). IsVersionIn store.limits store.start es (snapshot_of store.limits.mode t.before)) (sym (front_is store old.pass new.pass e t)) (version_now store.limits store.start t.seen (e ∷ []) t.before (snapshot_of store.limits.mode t.before) t.replays refl) in
    let kept : KeptIn store old.pass.known.front (Some w) = subst (KeptIn store old.pass.known.front) b.0.1 is.kept in
    session_with store old new e (Some w) (Some (snapshot_of store.limits.mode t.before)) is t (ap (λ s. s.number) b.1.1) (ap (λ s. s.current) b.1.1 ∙ b.0.1) (ap (λ s. s.head) b.1.1) (fits_turned store old.pass new.pass e (Some w) t fits)
    (turned_front store old.pass new.pass e (λ es. KeptIn store es (Some w)) (kept_last store (Some w)) t kept, (version, now.net))

pub heads_not_session : (store : SharedStore) (old new : StoreSession) (f : HeadFault) → IsSession store old → HeadsNot f store old new → IsSession store new
heads_not_session store old new heads.NoTransaction is b = subst (IsSession store) (sym b.1) is
heads_not_session store old new heads.Memory is b = session_failed store old new is b.1 (ap (λ s. s.number) b.2) (ap (λ s. s.current) b.2) (ap (λ s. s.head) b.2)

answers_session : (store : SharedStore) (old new : StoreSession) (w : OpenTransaction) (a : Committed) → IsSession store old → AnswersCommit store old new w a → new.number ≡ old.number → new.current ≡ None → IsSession store new
answers_session store old new w (ReadOnly v) is b n c = session_ended store old new is b.2 n c
answers_session store old new w (Done v why) is b n c = session_free store old new (event_of old.number (actions.Commit (committing w)) (replies.Done v why)) is b.1 n c
answers_session store old new w (Conflict v t) is b n c = session_free store old new (event_of old.number (actions.Commit (committing w)) (replies.Conflict v t)) is b.1 n c
answers_session store old new w (FullTriples v) is b n c = session_free store old new (event_of old.number (actions.Commit (committing w)) (replies.FullTriples v)) is b.1 n c
answers_session store old new w LogFault is b n c = session_free store old new (event_of old.number (actions.Commit (committing w)) replies.LogFault) is b.1 n c
answers_session store old new w (Stopped v) is b n c = session_free store old new (event_of old.number (actions.Commit (committing w)) (replies.Stopped v)) is b.1 n c
answers_session store old new w (Refused rows why shapes) is b n c = session_free store old new (event_of old.number (actions.Commit (committing w)) (replies.Refused rows why)) is b.1.0 n c

pub commits_session : (store : SharedStore) (old new : StoreSession) (a : Committed) → IsSession store old → Commits store old new a → IsSession store new
commits_session store old new a is b = answers_session store old new b.0 a is b.2 (ap (λ s. s.number) b.3) (ap (λ s. s.current) b.3)

pub commits_not_session : (store : SharedStore) (old new : StoreSession) (f : CommitFault) → IsSession store old → CommitsNot f store old new → IsSession store new
commits_not_session store old new commits.NoTransaction is b = subst (IsSession store) (sym b.1) is
commits_not_session store old new commits.Memory is b = session_failed store old new is b.3 (ap (λ s. s.number) b.4) (ap (λ s. s.current) b.4) (ap (λ s. s.head) b.4)

-- what a check and a commit ask of a session's open transaction
pub head_named : (store : SharedStore) (s : StoreSession) (w : OpenTransaction) (n : Snapshot) → IsSession store s → s.current ≡ Some w → s.head ≡ Some n → IsVersionIn store.limits store.start s.pass.known.front n × NetNamed n.named w.transaction.net
head_named store s w n is o h = subst (HeadIn store s.pass.known.front (Some w)) h (subst (λ (x : Option OpenTransaction). HeadIn store s.pass.known.front x s.head) o is.head)

pub committable_open : (store : SharedStore) (s : StoreSession) (w : OpenTransaction) → IsSession store s → s.current ≡ Some w → HasChange w.transaction.net w.transaction.staged → At store s.pass.known.front (λ t. IsCommittable t (committing w))
committable_open store s w is o change = λ t r. committable_kept store.limits store.start s.pass.known.front w.transaction w.checked t (open_fits store s w is o t r) change (open_kept store s w is o).1 r

pub verdict_open : (store : SharedStore) (s : StoreSession) (w : OpenTransaction) → IsSession store s → s.current ≡ Some w → AreOfVerdictIn store.limits store.start s.pass.known.front w.transaction.net (verdict_of w.checked) (pairs_of w.checked)
verdict_open store s w is o = pairs_kept store.limits store.start s.pass.known.front w.transaction.net w.checked (open_kept store s w is o).1

-- and its commit can be logged
pub loggable_open : (store : SharedStore) (s : StoreSession) (w : OpenTransaction) → IsSession store s → s.current ≡ Some w → IsLoggable (committing w)
loggable_open store s w is o = let l = (open_kept store s w is o).2 in record { net = l.net; staged = l.staged }

-- the same session with another transaction that has the same changes
with_same : (store : SharedStore) (old new : StoreSession) (w v : OpenTransaction) → IsSession store old → old.current ≡ Some w → new ≡ record old { current = Some v } → v.transaction.net ≡ w.transaction.net → v.transaction.verdict ≡ w.transaction.verdict → v.transaction.staged ≡ w.transaction.staged → ((s : State) → FitsState w.transaction s → FitsState v.transaction s)
    → KeepsIn store.limits store.start old.pass.known.front w.transaction.net v.checked → IsSession store new
with_same store old new w v is o e same bare shapes fits k =
    let front = old.pass.known.front in
    session_kept store old new (Some v) old.head is (ap (λ s. s.pass) e) (ap (λ s. s.number) e) (ap (λ s. s.current) e) (ap (λ s. s.head) e)
    (λ t r. fits t (open_fits store old w is o t r)) (
      (
        bare ∙ (open_kept store old w is o).0,
        subst (λ (net : List Change). KeepsIn store.limits store.start front net v.checked) (sym same) k,
        record { net = subst (AllByRecursion (λ c. IsReadable IsStored (changed_triple c))) (sym same) (open_kept store old w is o).2.net; staged = subst HasReadableShapes (sym shapes) (open_kept store old w is o).2.staged },
      ),
      same_head old.head (subst (λ (x : Option OpenTransaction). HeadIn store front x old.head) o is.head),
    )
  where
    same_head : (h : Option Snapshot) → HeadIn store old.pass.known.front (Some w) h → HeadIn store old.pass.known.front (Some v) h
    same_head None k = tt
    same_head (Some n) k = (k.0, subst (λ (net : List Change). NetNamed n.named net) (sym same) k.1)

-- a find or a select changes nothing that the store asks of the transaction
pub found_session : (store : SharedStore) (old new : StoreSession) (w : OpenTransaction) (p : Pattern) → IsSession store old → old.current ≡ Some w → new ≡ record old { current = Some (with_find w p) } → IsSession store new
found_session store old new w p is o e = with_same store old new w (with_find w p) is o e refl refl refl (λ s f. record { base = f.base; net = f.net; staged = f.staged; verdict = f.verdict }) (open_kept store old w is o).1

pub selected_session : (store : SharedStore) (old new : StoreSession) (w : OpenTransaction) (ps : List Pattern) → IsSession store old → old.current ≡ Some w → new ≡ record old { current = Some (with_finds w ps) } → IsSession store new
selected_session store old new w ps is o e = with_same store old new w (with_finds w ps) is o e refl refl refl (λ s f. record { base = f.base; net = f.net; staged = f.staged; verdict = f.verdict }) (open_kept store old w is o).1

-- nor does a check, but for what it keeps
pub checks_session : (store : SharedStore) (b : Bool) (old new : StoreSession) → IsSession store old → ChecksHead b old new → IsSession store new
checks_session store b old new is h =
    let w = h.0 in
    let n = h.2.0 in
    let v = h.2.2.0 in
    let at = head_named store old w n is h.1 h.2.1 in
    let same : v.transaction ≡ w.transaction = (check_same b n w v h.2.2.1).0 in
    with_same store old new w v is h.1 h.2.2.2 (ap (λ (x : Transaction). x.net) same) (ap (λ (x : Transaction). x.verdict) same) (ap (λ (x : Transaction). x.staged) same) (λ s f. subst (λ (x : Transaction). FitsState x s) (sym same) f) (check_keeps store.limits store.start old.pass.known.front b n w v at.0 h.2.2.1)
