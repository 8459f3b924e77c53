-- One command more, by a call of the store.
use Rattle.std.proofs.Common.{◌≡◌, OnOk, Result, Ok, Err, IfOk, MatchResult, ℕ, Bool, true, false, List, [], ◌∷◌, ◌++◌, length, map, Option, Some, None, refl, sym, ap, ◌∙◌, subst, ◌≤◌}
use Rattle.std.specs.Prelude.{MatchBool}
use Rattle.turn_lock.specs.Callers.{Caller}
use Rattle.rdf_model.specs.declared.term.Term.{Term}
use Rattle.rdf_model.specs.declared.triple.Triple.{Triple}
use Rattle.bgp_query.specs.declared.pattern.JoinPattern.{JoinPattern}
use Rattle.bgp_query.specs.Bindings.{most_bindings}
use Rattle.bgp_query.specs.Selected.{AreSelected}
use Rattle.bgp_query.specs.TermBindings.{opened}
use Rattle.rdf_model.specs.declared.change.Change.{Change}
use Rattle.rdf_model.specs.declared.pattern.Pattern.{Pattern}
use Rattle.store_model.specs.declared.event.NameKind.{NameKind}
use Rattle.store_model.specs.declared.event.NameKind.TheVariants as kinds
use Rattle.store_model.specs.declared.event.Event.{Event}
use Rattle.store_model.specs.declared.event.Action.{Action}
use Rattle.store_model.specs.declared.event.Action.TheVariants as actions
use Rattle.store_model.specs.declared.event.Reply.{Reply}
use Rattle.store_model.specs.declared.event.Reply.TheVariants as replies
use Rattle.store_model.specs.declared.commit.Transaction.{Transaction}
use Rattle.store_model.specs.Snapshots.{snapshot_of}
use Rattle.store_model.specs.Store.{version, HasChange}
use Rattle.session_model.specs.declared.command.Command.{Command}
use Rattle.session_model.specs.declared.command.Command.TheVariants.{Begin, Commit, Find, Report, Select, Abort}
use Rattle.session_model.specs.declared.reply.SessionReply.{SessionReply}
use Rattle.session_model.specs.declared.reply.SessionReply.TheVariants as said
use Rattle.session_model.specs.Reports.{ReportedGraph}
use Rattle.session_model.specs.Sessions as Sessions
use Rattle.session_model.specs.Sessions.{SessionState, local_answer, answers, action_of, after_reply, GoesOn, up_to_event, begun, parts_of, found_by}
use Rattle.session_model.proofs.Walking.{up_to_event-local, up_to_event-event}
use Rattle.report_writer.specs.Report.{report_text}
use Rattle.session_player.proofs.Playing.{local-none, local-change}
use Rattle.session_laws.specs.Following.{is_opening, first_state, unaided}
use Rattle.guard_store.specs.Slots.{Origin}
use Rattle.guard_store.specs.declared.faults.BeginFault.{BeginFault}
use Rattle.guard_store.specs.declared.faults.BeginFault.TheVariants as begins
use Rattle.guard_store.specs.declared.faults.StageFault.{StageFault}
use Rattle.guard_store.specs.declared.faults.AttachFault.{AttachFault}
use Rattle.guard_store.specs.declared.faults.AttachFault.TheVariants as attaches
use Rattle.guard_store.specs.declared.faults.FindFault.{FindFault}
use Rattle.guard_store.specs.declared.faults.FindFault.TheVariants as finds
use Rattle.guard_store.specs.declared.faults.ReportFault.{ReportFault}
use Rattle.guard_store.specs.declared.faults.ReportFault.TheVariants as reports
use Rattle.guard_store.specs.declared.faults.SelectFault.{SelectFault}
use Rattle.guard_store.specs.declared.faults.SelectFault.TheVariants as selects
use Rattle.guard_store.specs.declared.faults.HeadFault.{HeadFault}
use Rattle.guard_store.specs.declared.faults.CommitFault.{CommitFault}
use Rattle.guard_store.specs.declared.faults.CommitFault.TheVariants as commits
use Rattle.session_transaction.specs.declared.committing.Committed.{Committed}
use Rattle.session_transaction.specs.declared.committing.Committed.TheVariants.{ReadOnly, Done, Conflict, FullTriples, Refused, LogFault, Stopped}
use Rattle.session_transaction.specs.declared.transaction.OpenTransaction.{OpenTransaction}
use Rattle.session_transaction.specs.declared.transaction.ChangeKind.{ChangeKind}
use Rattle.session_transaction.specs.declared.transaction.ChangeKind.TheVariants.{Addition, Removal, Attachment}
use Rattle.guard_store.specs.Sessions.{StoreSession}
use Rattle.guard_store.specs.Fronts.{SharedStore, Turn}
use Rattle.guard_store.specs.Callers.{IsCaller, IsSession, HasWork, OnlyReads}
use Rattle.session_transaction.specs.Transactions.{FitsState, plain, plain_in, begun_at, changes_of, command_of, graph_so_far, name_kind_of, reply_of, with_changes, with_find, with_finds}
use Rattle.session_transaction.specs.Checks.{committing}
use Rattle.session_transaction.proofs.Checking.{check_same}
use Rattle.guard_store.specs.declared.faults.CheckFault.{CheckFault}
use Rattle.guard_store.specs.Answers.{AttachesNot, ChecksHead, ChecksNot, Begins, BeginsNot, NamesForNot, Stages, StagesBlock, StagesBlockNot, StagesNot, Heads, HeadsNot, Commits, CommitsNot, AnswersCommit, FindsNot, Reports, ReportsNot, SelectsNot, IsOpen, attach_fault, event_of}
use Rattle.guard_store.proofs.Turning.{front_is}
use Rattle.guard_store.proofs.Fitting.{fits_before, found_session, open_fits, selected_session, session_ended}
use Rattle.session_transaction.specs.Replies.{IsCommitReply, IsListed, IsRefused, answer_in}
use Rattle.session_transaction.proofs.Blocks.{IsBlock, block_change}
use Rattle.session_transaction.proofs.Fitting.{unknown_attaches}
use Rattle.session_transaction.proofs.Refusing.{refused_by}
use Rattle.session_transaction.proofs.Selecting.{too_many_selected}
use Rattle.session_threads.specs.Replies.{Tells, IsBlockReply, IsBeginReply, IsBlockRefusal, IsStageReply, IsFindRefusal, IsReportRefusal, IsSelectRefusal, IsAbortReply}
use Rattle.session_threads.specs.Playing.{HasPlayed, Plays, PlaysAll}
use Rattle.session_threads.proofs.Keeping.{played_still, played_on}

-- what follows from a reply, where it was added
pub on_told : {E F U : Type 0} (reply : Result SessionReply E) (t : Result U F) (rs more : List SessionReply) (P : SessionReply → Type 0) (Q : Type 0) → OnOk t (Tells reply rs more) → IfOk reply P
    → ((r : SessionReply) → P r → more ≡ rs ++ r ∷ [] → Q) → OnOk t Q
on_told (Ok r) (Ok u) rs more P Q h p f = f r p h
on_told (Ok r) (Err e) rs more P Q h p f = tt
on_told (Err e) (Ok u) rs more P Q h p f = absurd h
on_told (Err e) (Err d) rs more P Q h p f = tt

pub on_said : {F U : Type 0} (t : Result U F) (r : SessionReply) (rs more : List SessionReply) (Q : Type 0) → OnOk t (more ≡ rs ++ r ∷ []) → (more ≡ rs ++ r ∷ [] → Q) → OnOk t Q
on_said (Ok u) r rs more Q h f = f h
on_said (Err e) r rs more Q h f = tt

-- a command that is no event; v is the transaction after it
plays_local : (store : SharedStore) (old new : StoreSession) (w v : Option Sessions.OpenTransaction) (c : Command) (rs more : List SessionReply) (t : SessionReply) → IsSession store new → new.number ≡ old.number → new.pass ≡ old.pass
    → plain_in old.current ≡ w → plain_in new.current ≡ v → local_answer w c ≡ answers t v → more ≡ rs ++ t ∷ [] → Plays store old new c rs more
plays_local store old new w v c rs more t is n p ow nv e em = record {
  session = is;
  number = n;
  goes = λ file cs h.
      let one : HasPlayed store old.number old.pass.known.front file (up_to_event w (c ∷ cs) rs) = subst (λ (x : Option Sessions.OpenTransaction). HasPlayed store old.number old.pass.known.front file (up_to_event x (c ∷ cs) rs)) ow h in
      let two : HasPlayed store old.number old.pass.known.front file (up_to_event v cs (rs ++ t ∷ [])) = subst (HasPlayed store old.number old.pass.known.front file) (up_to_event-local w v c cs rs t e) one in
      let three : HasPlayed store old.number old.pass.known.front file (up_to_event (plain_in new.current) cs more) =
      subst (λ (x : Option Sessions.OpenTransaction). HasPlayed store old.number old.pass.known.front file (up_to_event x cs more)) (sym nv) (subst (λ (ts : List SessionReply). HasPlayed store old.number old.pass.known.front file (up_to_event v cs ts)) (sym em) two) in
      subst (λ (i : ℕ). HasPlayed store i new.pass.known.front file (up_to_event (plain_in new.current) cs more)) (sym n)
      (subst (λ (x : Caller Event Origin). HasPlayed store old.number x.known.front file (up_to_event (plain_in new.current) cs more)) (sym p) three);
}

-- a turn of the session's own, with the event of the next command
played_turn : (store : SharedStore) (i : ℕ) (old new : Caller Event Origin) (file : List Command) (w : Option Sessions.OpenTransaction) (c : Command) (cs : List Command) (rs : List SessionReply) (a : Action) (r : Reply) (q : SessionState)
    → is_opening a ≡ false → IsCaller store i old → (t : Turn store old new (event_of i a r)) → GoesOn t.before w c cs rs (unaided a) r q
    → HasPlayed store i old.known.front file (record { current = w; commands = c ∷ cs; replies = rs }) → HasPlayed store i new.known.front file q
played_turn store i old new file w c cs rs a r q e is t on p =
    let event : Event = event_of i a r in
    subst (λ (x : List Event). HasPlayed store i x file q) (sym (front_is store old new event t))
    (played_on store.limits store.start i t.seen (first_state file) w c cs rs a r q t.before e on t.replays (played_still store.limits store.start i old.known t.seen (first_state file) (record { current = w; commands = c ∷ cs; replies = rs }) is.own t.others p))

-- a command that is an event; w is the transaction before it, v the one after it
plays_event : (store : SharedStore) (old new : StoreSession) (w v : Option Sessions.OpenTransaction) (c : Command) (a : Action) (r : Reply) (rs more : List SessionReply) (x : SessionReply) → IsSession store old → IsSession store new → new.number ≡ old.number
    → plain_in old.current ≡ w → plain_in new.current ≡ v → local_answer w c ≡ None → action_of w c ≡ Some (unaided a) → is_opening a ≡ false → (t : Turn store old.pass new.pass (event_of old.number a r))
    → ((cs : List Command) → after_reply t.before w c cs rs r ≡ Some (up_to_event v cs (rs ++ x ∷ []))) → more ≡ rs ++ x ∷ [] → Plays store old new c rs more
plays_event store old new w v c a r rs more x was is n ow nv e action o t by em = record {
  session = is;
  number = n;
  goes = λ file cs h.
      let i = old.number in
      let one : HasPlayed store i old.pass.known.front file (up_to_event w (c ∷ cs) rs) = subst (λ (y : Option Sessions.OpenTransaction). HasPlayed store i old.pass.known.front file (up_to_event y (c ∷ cs) rs)) ow h in
      let two : HasPlayed store i old.pass.known.front file (record { current = w; commands = c ∷ cs; replies = rs }) = subst (HasPlayed store i old.pass.known.front file) (up_to_event-event w c cs rs e) one in
      let three : HasPlayed store i new.pass.known.front file (up_to_event v cs (rs ++ x ∷ [])) =
      played_turn store i old.pass new.pass file w c cs rs a r (up_to_event v cs (rs ++ x ∷ [])) o was.caller t (record { event = action; next = by cs }) two in
      let four : HasPlayed store i new.pass.known.front file (up_to_event (plain_in new.current) cs more) =
      subst (λ (y : Option Sessions.OpenTransaction). HasPlayed store i new.pass.known.front file (up_to_event y cs more)) (sym nv) (subst (λ (ts : List SessionReply). HasPlayed store i new.pass.known.front file (up_to_event v cs ts)) (sym em) three) in
      subst (λ (k : ℕ). HasPlayed store k new.pass.known.front file (up_to_event (plain_in new.current) cs more)) (sym n) four;
}

plain_none : (s : StoreSession) → s.current ≡ None → plain_in s.current ≡ None
plain_none s e = ap plain_in e

plain_open : (s : StoreSession) (w : OpenTransaction) → s.current ≡ Some w → plain_in s.current ≡ Some (plain w)
plain_open s w e = ap plain_in e

pub plays_begin : (store : SharedStore) (old new : StoreSession) (a : Result ℕ BeginFault) (r : SessionReply) (rs more : List SessionReply) → IsSession store old → IsSession store new
    → MatchResult a (λ v. Begins store old new v) (λ f. BeginsNot f store old new) → IsBeginReply a r → more ≡ rs ++ r ∷ [] → Plays store old new Begin rs more
plays_begin store old new (Ok v) r rs more was is b told em =
    let t = b.1.0 in
    let h = b.1.1 in
    let count : v ≡ version t.before = cc (t.step.1.0) in
    let now : plain_in new.current ≡ Some (begun v t.before.graph t.before.shapes) = plain_open new (begun_at (snapshot_of store.limits.mode t.before)) (ap (λ s. s.current) h) ∙ ap (λ (k : ℕ). Some (begun k t.before.graph t.before.shapes)) (sym count) in
    plays_event store old new None (Some (begun v t.before.graph t.before.shapes)) Begin actions.Begin (replies.Version v) rs more (said.Begun v) was is (ap (λ s. s.number) h) (plain_none old b.0) now refl refl refl t (λ cs. refl) (em ∙ ap (λ x. rs ++ x ∷ []) told)
plays_begin store old new (Err begins.AlreadyOpen) r rs more was is b told em =
    plays_local store old new (Some (plain b.0.0)) (Some (plain b.0.0)) Begin rs more said.AlreadyOpen is (ap (λ s. s.number) b.1) (ap (λ s. s.pass) b.1) (plain_open old b.0.0 b.0.1) (plain_open new b.0.0 (ap (λ s. s.current) b.1 ∙ b.0.1)) refl
    (em ∙ ap (λ x. rs ++ x ∷ []) told)
plays_begin store old new (Err begins.Memory) r rs more was is b told em = absurd told

not_attached : (store : SharedStore) (old new : StoreSession) (ts : List Triple) (f : AttachFault) → AttachesNot f store old new ts → NamesForNot f store old new kinds.Attach ts
not_attached store old new ts attaches.NoTransaction b = b
not_attached store old new ts (attaches.Unknown node) b = (b.0, b.1.0, b.2)
not_attached store old new ts (attaches.Full n) b = (b.0, b.1.0, b.2)
not_attached store old new ts attaches.Memory b = b

-- a block that was staged, and one that wasn't
plays_staged : (store : SharedStore) (old new : StoreSession) (c : Command) (kind : NameKind) (ts : List Triple) (staged : OpenTransaction → OpenTransaction) (done : SessionReply) → IsBlock c kind ts staged done
    → (rs more : List SessionReply) → IsSession store old → IsSession store new → Stages store old new kind ts staged → more ≡ rs ++ done ∷ [] → Plays store old new c rs more
plays_staged store old new c kind ts staged done k rs more was is b em =
    let w = b.0 in
    plays_event store old new (Some (plain w)) (Some (plain (staged w))) c (actions.Name kind (parts_of ts)) replies.Named rs more done was is (ap (λ s. s.number) b.3) (plain_open old w b.1) (plain_open new (staged w) (ap (λ s. s.current) b.3)) (k.event (plain w)) (k.action (plain w)) refl
    b.2 (λ cs. k.named b.2.before w cs rs) em

plays_not_staged : (store : SharedStore) (old new : StoreSession) (c : Command) (kind : NameKind) (ts : List Triple) (staged : OpenTransaction → OpenTransaction) (done : SessionReply) → IsBlock c kind ts staged done
    → (f : AttachFault) (r : SessionReply) (rs more : List SessionReply) → IsSession store old → IsSession store new → NamesForNot f store old new kind ts → IsBlockRefusal f r → more ≡ rs ++ r ∷ [] → Plays store old new c rs more
plays_not_staged store old new c kind ts staged done k attaches.NoTransaction r rs more was is b told em =
    plays_local store old new None None c rs more said.NoTransaction is (ap (λ s. s.number) b.1) (ap (λ s. s.pass) b.1) (plain_none old b.0) (plain_none new (ap (λ s. s.current) b.1 ∙ b.0)) k.free (em ∙ ap (λ x. rs ++ x ∷ []) told)
plays_not_staged store old new c kind ts staged done k (attaches.Unknown node) r rs more was is b told em =
    let w = b.0.0 in
    let t = b.1 in
    let attach : kind ≡ kinds.Attach = unknown_attaches store.limits t.before t.after old.number kind (parts_of ts) node t.step in
    plays_event store old new (Some (plain w)) (Some (plain w)) c (actions.Name kind (parts_of ts)) (replies.Unknown node) rs more (said.UnknownNode node) was is (ap (λ s. s.number) b.2) (plain_open old w b.0.1) (plain_open new w (ap (λ s. s.current) b.2 ∙ b.0.1)) (k.event (plain w)) (k.action (plain w)) refl
    t (λ cs. k.unknown t.before w node cs rs attach) (em ∙ ap (λ x. rs ++ x ∷ []) told)
plays_not_staged store old new c kind ts staged done k (attaches.Full n) r rs more was is b told em =
    let w = b.0.0 in
    plays_event store old new (Some (plain w)) (Some (plain w)) c (actions.Name kind (parts_of ts)) (replies.Full n) rs more said.FullTerms was is (ap (λ s. s.number) b.2) (plain_open old w b.0.1) (plain_open new w (ap (λ s. s.current) b.2 ∙ b.0.1)) (k.event (plain w)) (k.action (plain w)) refl
    b.1 (λ cs. k.full b.1.before w n cs rs) (em ∙ ap (λ x. rs ++ x ∷ []) told)
plays_not_staged store old new c kind ts staged done k attaches.Memory r rs more was is b told em = absurd told

pub plays_stage : {U : Type 0} (store : SharedStore) (old new : StoreSession) (c : Command) (kind : NameKind) (ts : List Triple) (staged : OpenTransaction → OpenTransaction) (done : SessionReply) → IsBlock c kind ts staged done
    → (a : Result U StageFault) (r : SessionReply) (rs more : List SessionReply) → IsSession store old → IsSession store new
    → MatchResult a (λ _. Stages store old new kind ts staged) (λ f. StagesNot f store old new kind ts) → IsStageReply a done r → more ≡ rs ++ r ∷ [] → Plays store old new c rs more
plays_stage {U} store old new c kind ts staged done k (Ok u) r rs more was is b told em = plays_staged store old new c kind ts staged done k rs more was is b (em ∙ ap (λ x. rs ++ x ∷ []) told)
plays_stage {U} store old new c kind ts staged done k (Err f) r rs more was is b told em = plays_not_staged store old new c kind ts staged done k (attach_fault f) r rs more was is b told em

-- a block of changes, by its kind
staged_block : (store : SharedStore) (old new : StoreSession) (k : ChangeKind) (ts : List Triple) → StagesBlock k store old new ts → Stages store old new (name_kind_of k) ts (λ w. with_changes w (changes_of k ts))
staged_block store old new Addition ts b = b
staged_block store old new Removal ts b = b
staged_block store old new Attachment ts b = (b.0, b.1, b.2.0, b.3)

named_not : (store : SharedStore) (old new : StoreSession) (kind : NameKind) (ts : List Triple) (f : AttachFault) → (g : StageFault) × (f ≡ attach_fault g) × StagesNot g store old new kind ts → NamesForNot f store old new kind ts
named_not store old new kind ts f b = subst (λ (x : AttachFault). NamesForNot x store old new kind ts) (sym b.1) b.2

not_staged_block : (store : SharedStore) (old new : StoreSession) (k : ChangeKind) (ts : List Triple) (f : AttachFault) → StagesBlockNot k f store old new ts → NamesForNot f store old new (name_kind_of k) ts
not_staged_block store old new Addition ts f b = named_not store old new kinds.Fresh ts f b
not_staged_block store old new Removal ts f b = named_not store old new kinds.Known ts f b
not_staged_block store old new Attachment ts f b = not_attached store old new ts f b

pub plays_block : {U : Type 0} (store : SharedStore) (old new : StoreSession) (k : ChangeKind) (ts : List Triple) (a : Result U AttachFault) (r : SessionReply) (rs more : List SessionReply) → IsSession store old → IsSession store new
    → MatchResult a (λ _. StagesBlock k store old new ts) (λ f. StagesBlockNot k f store old new ts) → IsBlockReply a (reply_of k (length ts)) r → more ≡ rs ++ r ∷ [] → Plays store old new (command_of k ts) rs more
plays_block {U} store old new k ts (Ok u) r rs more was is b told em =
    plays_staged store old new (command_of k ts) (name_kind_of k) ts (λ w. with_changes w (changes_of k ts)) (reply_of k (length ts)) (block_change k ts) rs more was is (staged_block store old new k ts b) (em ∙ ap (λ x. rs ++ x ∷ []) told)
plays_block {U} store old new k ts (Err f) r rs more was is b told em =
    plays_not_staged store old new (command_of k ts) (name_kind_of k) ts (λ w. with_changes w (changes_of k ts)) (reply_of k (length ts)) (block_change k ts) f r rs more was is (not_staged_block store old new k ts f b) told em

-- a command whose block is refused
pub plays_refused : (store : SharedStore) (s : StoreSession) (c : Command) (r : SessionReply) (rs more : List SessionReply) → IsSession store s → IsRefused c r → more ≡ rs ++ answer_in (plain_in s.current) r ∷ [] → Plays store s s c rs more
plays_refused store s c r rs more is h em = plays_local store s s (plain_in s.current) (plain_in s.current) c rs more (answer_in (plain_in s.current) r) is refl refl refl refl (refused_by c r (plain_in s.current) h) em

-- finds, selects and aborts
pub plays_found : (store : SharedStore) (old new : StoreSession) (p : Pattern) (w : OpenTransaction) (r : SessionReply) (rs more : List SessionReply) (ts : List Triple) → IsSession store new → IsOpen old w → ts ≡ found_by (plain w) p
    → new ≡ record old { current = Some (with_find w p) } → r ≡ Sessions.find_reply ts → more ≡ rs ++ r ∷ [] → Plays store old new (Find p) rs more
plays_found store old new p w r rs more ts is o found e told em =
    plays_local store old new (Some (plain w)) (Some (plain (with_find w p))) (Find p) rs more (Sessions.find_reply (found_by (plain w) p)) is (ap (λ s. s.number) e) (ap (λ s. s.pass) e) (plain_open old w o) (plain_open new (with_find w p) (ap (λ s. s.current) e)) refl
    (em ∙ (ap (λ x. rs ++ x ∷ []) told ∙ ap (λ (us : List Triple). rs ++ Sessions.find_reply us ∷ []) found))

pub plays_not_found : (store : SharedStore) (old new : StoreSession) (p : Pattern) (f : FindFault) (r : SessionReply) (rs more : List SessionReply) → IsSession store old → FindsNot f old new → IsFindRefusal f r → more ≡ rs ++ r ∷ [] → Plays store old new (Find p) rs more
plays_not_found store old new p finds.NoTransaction r rs more is b told em =
    let new_is : IsSession store new = subst (IsSession store) (sym b.1) is in
    plays_local store old new None None (Find p) rs more said.NoTransaction new_is (ap (λ s. s.number) b.1) (ap (λ s. s.pass) b.1) (plain_none old b.0) (plain_none new (ap (λ s. s.current) b.1 ∙ b.0)) refl (em ∙ ap (λ x. rs ++ x ∷ []) told)
plays_not_found store old new p finds.Memory r rs more is b told em = absurd told

plays_selected : (store : SharedStore) (old new : StoreSession) (ps : List (JoinPattern Term)) (w : OpenTransaction) (r : SessionReply) (rs more : List SessionReply) → IsSession store old → IsOpen old w → new ≡ record old { current = Some (with_finds w (map opened ps)) }
    → r ≡ Sessions.select_reply (Sessions.selected_by (plain w) ps) → more ≡ rs ++ r ∷ [] → Plays store old new (Select ps) rs more
plays_selected store old new ps w r rs more is o e told em =
    plays_local store old new (Some (plain w)) (Some (plain (with_finds w (map opened ps)))) (Select ps) rs more (Sessions.select_reply (Sessions.selected_by (plain w) ps)) (selected_session store old new w (map opened ps) is o e) (ap (λ s. s.number) e) (ap (λ s. s.pass) e)
    (plain_open old w o) (plain_open new (with_finds w (map opened ps)) (ap (λ s. s.current) e)) refl (em ∙ ap (λ x. rs ++ x ∷ []) told)

plays_not_selected : (store : SharedStore) (old new : StoreSession) (ps : List (JoinPattern Term)) (f : SelectFault) (r : SessionReply) (rs more : List SessionReply) → IsSession store old → SelectsNot f ps old new → IsSelectRefusal f r → more ≡ rs ++ r ∷ [] → Plays store old new (Select ps) rs more
plays_not_selected store old new ps selects.NoTransaction r rs more is b told em =
    let new_is : IsSession store new = subst (IsSession store) (sym b.1) is in
    plays_local store old new None None (Select ps) rs more said.NoTransaction new_is (ap (λ s. s.number) b.1) (ap (λ s. s.pass) b.1) (plain_none old b.0) (plain_none new (ap (λ s. s.current) b.1 ∙ b.0)) refl (em ∙ ap (λ x. rs ++ x ∷ []) told)
plays_not_selected store old new ps selects.TooMany r rs more is b told em =
    plays_selected store old new ps b.0 r rs more is b.1 b.3 (told ∙ sym (too_many_selected (Sessions.selected_by (plain b.0) ps) b.2)) em
plays_not_selected store old new ps selects.Memory r rs more is b told em = absurd told

-- what a select is answered: `rows_of` are the terms of an answer
pub plays_select : {V : Type 0} (rows_of : V → List (List Term)) (store : SharedStore) (old new : StoreSession) (ps : List (JoinPattern Term)) (a : Result V SelectFault) (r : SessionReply) (rs more : List SessionReply) → IsSession store old
    → MatchResult a (λ v. (w : OpenTransaction) × IsOpen old w × AreSelected (graph_so_far w) ps (rows_of v) × (new ≡ record old { current = Some (with_finds w (map opened ps)) })) (λ f. SelectsNot f ps old new)
    → MatchResult a (λ v. r ≡ Sessions.select_reply (rows_of v)) (λ f. IsSelectRefusal f r) → more ≡ rs ++ r ∷ [] → Plays store old new (Select ps) rs more
plays_select {V} rows_of store old new ps (Ok v) r rs more is h reply em = plays_selected store old new ps h.0 r rs more is h.1 h.3 (reply ∙ ap Sessions.select_reply h.2.all) em
plays_select {V} rows_of store old new ps (Err f) r rs more is h reply em = plays_not_selected store old new ps f r rs more is h reply em

pub few_rows : {V : Type 0} (rows_of : V → List (List Term)) (old new : StoreSession) (ps : List (JoinPattern Term)) (a : Result V SelectFault)
    → MatchResult a (λ v. (w : OpenTransaction) × IsOpen old w × AreSelected (graph_so_far w) ps (rows_of v) × (new ≡ record old { current = Some (with_finds w (map opened ps)) })) (λ f. SelectsNot f ps old new) → IfOk a (λ v. length (rows_of v) ≤ most_bindings)
few_rows {V} rows_of old new ps (Ok v) h = h.2.few
few_rows {V} rows_of old new ps (Err f) h = tt

-- a report, whatever it is answered: the session is as it was
pub plays_report : (store : SharedStore) (s : StoreSession) (a : Result ReportedGraph ReportFault) (r : SessionReply) (rs more : List SessionReply) → IsSession store s → MatchResult a (Reports s) (λ f. ReportsNot f s)
    → MatchResult a (λ report. r ≡ said.Reported report) (λ f. IsReportRefusal f r) → more ≡ rs ++ r ∷ [] → Plays store s s Report rs more
plays_report store s (Ok report) r rs more is h told em =
    let w = h.0 in
    plays_local store s s (Some (plain w)) (Some (plain w)) Report rs more (said.Reported report) is refl refl (plain_open s w h.1) (plain_open s w h.1) (ap (λ (x : ReportedGraph). answers (said.Reported x) (Some (plain w))) (sym h.2)) (em ∙ ap (λ x. rs ++ x ∷ []) told)
plays_report store s (Err reports.NoTransaction) r rs more is h told em = plays_local store s s None None Report rs more said.NoTransaction is refl refl (plain_none s h) (plain_none s h) refl (em ∙ ap (λ x. rs ++ x ∷ []) told)
plays_report store s (Err reports.Memory) r rs more is h told em = absurd told

pub plays_abort : (store : SharedStore) (old new : StoreSession) (b : Bool) (r : SessionReply) (rs more : List SessionReply) → IsSession store old
    → MatchBool b (((w : OpenTransaction) × IsOpen old w) × (new ≡ record old { current = None; head = None })) ((old.current ≡ None) × (new ≡ old)) → IsAbortReply b r → more ≡ rs ++ r ∷ [] → Plays store old new Abort rs more
plays_abort store old new true r rs more is b told em =
    let new_is : IsSession store new = session_ended store old new is (ap (λ s. s.pass) b.1) (ap (λ s. s.number) b.1) (ap (λ s. s.current) b.1) in
    plays_local store old new (Some (plain b.0.0)) None Abort rs more said.Aborted new_is (ap (λ s. s.number) b.1) (ap (λ s. s.pass) b.1) (plain_open old b.0.0 b.0.1) (plain_none new (ap (λ s. s.current) b.1)) refl (em ∙ ap (λ x. rs ++ x ∷ []) told)
plays_abort store old new false r rs more is b told em =
    let new_is : IsSession store new = subst (IsSession store) (sym b.1) is in
    plays_local store old new None None Abort rs more said.NoTransaction new_is (ap (λ s. s.number) b.1) (ap (λ s. s.pass) b.1) (plain_none old b.0) (plain_none new (ap (λ s. s.current) b.1 ∙ b.0)) refl (em ∙ ap (λ x. rs ++ x ∷ []) told)

-- a commit that is no event
no_change : (w : OpenTransaction) → OnlyReads (Some w) → HasChange w.transaction.net w.transaction.staged → ⊥
no_change w o h = subst (λ (x : Option (List Triple)). HasChange [] x → ⊥) (sym o.1) (λ y. y) (subst (λ (x : List Change). HasChange x w.transaction.staged) o.0 h)

no_work : (s : StoreSession) (w : OpenTransaction) → IsOpen s w → OnlyReads s.current → HasChange w.transaction.net w.transaction.staged → ⊥
no_work s w o reads h = no_change w (subst OnlyReads o reads) h

pub plays_reading : (store : SharedStore) (old new : StoreSession) (a : Result Committed CommitFault) (r : SessionReply) (rs more : List SessionReply) → IsSession store old → IsSession store new → OnlyReads old.current
    → MatchResult a (Commits store old new) (λ f. CommitsNot f store old new) → MatchResult a (λ c. IsCommitReply c r) (λ f. (f ≡ commits.NoTransaction) × (r ≡ said.NoTransaction)) → more ≡ rs ++ r ∷ []
    → Plays store old new Commit rs more
plays_reading store old new (Ok (ReadOnly v)) r rs more was is reads b told em =
    let w = b.0 in
    let only : OnlyReads (Some w) = b.2.0 in
    let e : local_answer (Some (plain w)) Commit ≡ answers (said.ReadOnly w.transaction.base) None = local-none (plain w) w.transaction.net w.transaction.staged only.0 only.1 in
    plays_local store old new (Some (plain w)) None Commit rs more (said.ReadOnly w.transaction.base) is (ap (λ s. s.number) b.3) b.2.2 (plain_open old w b.1) (plain_none new (ap (λ s. s.current) b.3)) e
    (em ∙ (ap (λ x. rs ++ x ∷ []) told ∙ ap (λ (k : ℕ). rs ++ said.ReadOnly k ∷ []) b.2.1))
plays_reading store old new (Ok (Done n why)) r rs more was is reads b told em = absurd (no_work old b.0 b.1 reads b.2.0)
plays_reading store old new (Ok (Conflict n t)) r rs more was is reads b told em = absurd (no_work old b.0 b.1 reads b.2.0)
plays_reading store old new (Ok (FullTriples n)) r rs more was is reads b told em = absurd (no_work old b.0 b.1 reads b.2.0)
plays_reading store old new (Ok LogFault) r rs more was is reads b told em = absurd (no_work old b.0 b.1 reads b.2.0)
plays_reading store old new (Ok (Stopped n)) r rs more was is reads b told em = absurd (no_work old b.0 b.1 reads b.2.0)
plays_reading store old new (Ok (Refused rows why shapes)) r rs more was is reads b told em = absurd (no_work old b.0 b.1 reads b.2.0)
plays_reading store old new (Err commits.NoTransaction) r rs more was is reads b told em =
    plays_local store old new None None Commit rs more said.NoTransaction is (ap (λ s. s.number) b.1) (ap (λ s. s.pass) b.1) (plain_none old b.0) (plain_none new (ap (λ s. s.current) b.1 ∙ b.0)) refl (em ∙ ap (λ x. rs ++ x ∷ []) told.1)
plays_reading store old new (Err commits.Memory) r rs more was is reads b told em = absurd (let z : commits.Memory ≡ commits.NoTransaction = told.0 in cc)

-- the turn of a commit
committed_turn : (store : SharedStore) (i : ℕ) (mid new : StoreSession) (file : List Command) (w : OpenTransaction) (cs : List Command) (rs : List SessionReply) (r : Reply) (x : SessionReply) → IsCaller store i mid.pass
    → (t : Turn store mid.pass new.pass (event_of mid.number (actions.Commit (committing w)) r)) → w.transaction.verdict ≡ None → mid.number ≡ i
    → ((cs : List Command) → after_reply t.before (Some (record { transaction = w.transaction; graph = w.snap.graph; shapes = w.snap.shapes; head_taken = true })) Commit cs rs r ≡ Some (up_to_event None cs (rs ++ x ∷ [])))
    → HasPlayed store i mid.pass.known.front file (record { current = Some (record { transaction = w.transaction; graph = w.snap.graph; shapes = w.snap.shapes; head_taken = true }); commands = Commit ∷ cs; replies = rs })
    → HasPlayed store i new.pass.known.front file (up_to_event None cs (rs ++ x ∷ []))
committed_turn store i mid new file w cs rs r x caller t bare same by p =
    let z : Transaction = committing w in
    let own : record z { verdict = None } ≡ w.transaction = λ j. record w.transaction { verdict = sym bare j } in
    let u : Sessions.OpenTransaction = record { transaction = w.transaction; graph = w.snap.graph; shapes = w.snap.shapes; head_taken = true } in
    let event : Event = event_of i (actions.Commit z) r in
    let seen : new.pass.known.front ≡ t.seen ++ event ∷ [] = front_is store mid.pass new.pass (event_of mid.number (actions.Commit z) r) t ∙ ap (λ (k : ℕ). t.seen ++ event_of k (actions.Commit z) r ∷ []) same in
    let start : SessionState = record { current = Some u; commands = Commit ∷ cs; replies = rs } in
    let last : SessionState = up_to_event None cs (rs ++ x ∷ []) in
    subst (λ (y : List Event). HasPlayed store i y file last) (sym seen)
    (played_on store.limits store.start i t.seen (first_state file) (Some u) Commit cs rs (actions.Commit z) r last t.before refl (record { event = ap (λ (y : Transaction). Some (actions.Commit y)) (sym own); next = by cs }) t.replays
    (played_still store.limits store.start i mid.pass.known t.seen (first_state file) start caller.own t.others p))

-- What a session is after its head and its check: its turn was the head's, and but for what the check keeps, its transaction is
-- the one before.
pub record Readies (store : SharedStore) (old mid : StoreSession) (v : ℕ) : Type 0 where
  pub number : mid.number ≡ old.number
  pub turn : Turn store old.pass mid.pass (event_of old.number actions.Head (replies.Version v))
  pub current : plain_in mid.current ≡ plain_in old.current

-- a commit that is one, after its head
plays_committed : (store : SharedStore) (old mid new : StoreSession) (w : OpenTransaction) (v : ℕ) (r : Reply) (x : SessionReply) (rs more : List SessionReply) → IsSession store old → IsSession store mid → IsSession store new → IsOpen mid w
    → HasChange w.transaction.net w.transaction.staged → Readies store old mid v → (t : Turn store mid.pass new.pass (event_of mid.number (actions.Commit (committing w)) r))
    → ((cs : List Command) → after_reply t.before (Some (record { transaction = w.transaction; graph = w.snap.graph; shapes = w.snap.shapes; head_taken = true })) Commit cs rs r ≡ Some (up_to_event None cs (rs ++ x ∷ []))) → new.number ≡ mid.number → new.current ≡ None → more ≡ rs ++ x ∷ []
    → Plays store old new Commit rs more
plays_committed store old mid new w v r x rs more was mid_is is o change h t by n none em =
    let i = old.number in
    let same : mid.number ≡ old.number = h.number in
    let begun_with : plain_in old.current ≡ Some (plain w) = sym h.current ∙ plain_open mid w o in
    let e : Event = event_of mid.number (actions.Commit (committing w)) r in
    let bare : w.transaction.verdict ≡ None = let f : FitsState w.transaction t.before = fits_before store mid.pass new.pass e (Some w) t (open_fits store mid w mid_is o) in f.verdict in
    let u : Sessions.OpenTransaction = record { transaction = w.transaction; graph = w.snap.graph; shapes = w.snap.shapes; head_taken = true } in
    let caller : IsCaller store i mid.pass = subst (λ (k : ℕ). IsCaller store k mid.pass) same mid_is.caller in record {
      session = is;
      number = n ∙ same;
      goes = λ file cs p.
          let one : HasPlayed store i old.pass.known.front file (up_to_event (Some (plain w)) (Commit ∷ cs) rs) = subst (λ (y : Option Sessions.OpenTransaction). HasPlayed store i old.pass.known.front file (up_to_event y (Commit ∷ cs) rs)) begun_with p in
          let two : HasPlayed store i old.pass.known.front file (record { current = Some (plain w); commands = Commit ∷ cs; replies = rs }) =
          subst (HasPlayed store i old.pass.known.front file) (up_to_event-event (Some (plain w)) Commit cs rs (local-change (plain w) w.transaction.net w.transaction.staged change)) one in
          let three : HasPlayed store i mid.pass.known.front file (record { current = Some u; commands = Commit ∷ cs; replies = rs }) =
          played_turn store i old.pass mid.pass file (Some (plain w)) Commit cs rs actions.Head (replies.Version v) (record { current = Some u; commands = Commit ∷ cs; replies = rs }) refl was.caller h.turn (record { event = refl; next = refl }) two in
          let four : HasPlayed store i new.pass.known.front file (up_to_event None cs (rs ++ x ∷ [])) = committed_turn store i mid new file w cs rs r x caller t bare same by three in
          let five : HasPlayed store i new.pass.known.front file (up_to_event (plain_in new.current) cs more) =
          subst (λ (y : Option Sessions.OpenTransaction). HasPlayed store i new.pass.known.front file (up_to_event y cs more)) (sym (plain_none new none)) (subst (λ (ts : List SessionReply). HasPlayed store i new.pass.known.front file (up_to_event None cs ts)) (sym em) four) in
          subst (λ (k : ℕ). HasPlayed store k new.pass.known.front file (up_to_event (plain_in new.current) cs more)) (sym (n ∙ same)) five;
    }

told_refused : (rows : List _) (shapes : List Triple) (under : List Triple) → shapes ≡ under → said.Refused (length rows) (report_text under rows) ≡ said.Refused (length rows) (report_text shapes rows)
told_refused rows shapes under e = ap (λ (s : List Triple). said.Refused (length rows) (report_text s rows)) (sym e)

-- a check after the head
readies : (store : SharedStore) (old head mid : StoreSession) (v : ℕ) (b : Bool) → Heads store old head v → ChecksHead b head mid → Readies store old mid v
readies store old head mid v b h k =
    let w = k.0 in
    let same = check_same b k.2.0 w k.2.2.0 k.2.2.1 in
    let now : plain k.2.2.0 ≡ plain w = λ i. record { transaction = same.0 i; graph = (same.1 i).graph; shapes = (same.1 i).shapes; head_taken = false } in record {
      number = ap (λ s. s.number) k.2.2.2 ∙ ap (λ s. s.number) h.1.1;
      turn = subst (λ (c : Caller Event Origin). Turn store old.pass c (event_of old.number actions.Head (replies.Version v))) (sym (ap (λ s. s.pass) k.2.2.2)) h.1.0;
      current = ap (λ s. plain_in s.current) k.2.2.2 ∙ (ap Some now ∙ (sym (plain_open head w k.1) ∙ ap (λ s. plain_in s.current) h.1.1));
    }

-- a transaction that changes something does so however much was checked of it
work_of : (o : Option OpenTransaction) (w : OpenTransaction) → HasWork o → plain_in o ≡ Some (plain w) → HasChange w.transaction.net w.transaction.staged
work_of None w h e = absurd h
work_of (Some x) w h e = let same : plain x ≡ plain w = cc e in subst (λ (y : Transaction). HasChange y.net y.staged) (ap (λ (y : Sessions.OpenTransaction). y.transaction) same) h

no_work_of : (o : Option OpenTransaction) → HasWork o → plain_in o ≡ None → ⊥
no_work_of None h e = h
no_work_of (Some x) h e = cc

pub plays_work : (store : SharedStore) (old mid new : StoreSession) (v : ℕ) (a : Result Committed CommitFault) (r : SessionReply) (rs more : List SessionReply) → IsSession store old → IsSession store mid → IsSession store new → HasWork old.current → Readies store old mid v
    → MatchResult a (Commits store mid new) (λ f. CommitsNot f store mid new) → MatchResult a (λ c. IsCommitReply c r) (λ f. (f ≡ commits.NoTransaction) × (r ≡ said.NoTransaction)) → more ≡ rs ++ r ∷ []
    → Plays store old new Commit rs more
plays_work store old mid new v (Ok (ReadOnly n)) r rs more was mid_is is work h b told em = absurd (no_change b.0 b.2.0 (work_of old.current b.0 work (sym h.current ∙ plain_open mid b.0 b.1)))
plays_work store old mid new v (Ok (Done n why)) r rs more was mid_is is work h b told em =
    plays_committed store old mid new b.0 v (replies.Done n why) (said.Committed n) rs more was mid_is is b.1 b.2.0 h b.2.1 (λ cs. refl) (ap (λ s. s.number) b.3) (ap (λ s. s.current) b.3) (em ∙ ap (λ x. rs ++ x ∷ []) told)
plays_work store old mid new v (Ok (Conflict n t)) r rs more was mid_is is work h b told em =
    plays_committed store old mid new b.0 v (replies.Conflict n t) (said.Overtaken n t) rs more was mid_is is b.1 b.2.0 h b.2.1 (λ cs. refl) (ap (λ s. s.number) b.3) (ap (λ s. s.current) b.3) (em ∙ ap (λ x. rs ++ x ∷ []) told)
plays_work store old mid new v (Ok (FullTriples n)) r rs more was mid_is is work h b told em =
    plays_committed store old mid new b.0 v (replies.FullTriples n) said.FullGraph rs more was mid_is is b.1 b.2.0 h b.2.1 (λ cs. refl) (ap (λ s. s.number) b.3) (ap (λ s. s.current) b.3) (em ∙ ap (λ x. rs ++ x ∷ []) told)
plays_work store old mid new v (Ok LogFault) r rs more was mid_is is work h b told em =
    plays_committed store old mid new b.0 v replies.LogFault said.LogFailed rs more was mid_is is b.1 b.2.0 h b.2.1 (λ cs. refl) (ap (λ s. s.number) b.3) (ap (λ s. s.current) b.3) (em ∙ ap (λ x. rs ++ x ∷ []) told)
plays_work store old mid new v (Ok (Stopped n)) r rs more was mid_is is work h b told em =
    plays_committed store old mid new b.0 v (replies.Stopped n) (said.Stopped n) rs more was mid_is is b.1 b.2.0 h b.2.1 (λ cs. refl) (ap (λ s. s.number) b.3) (ap (λ s. s.current) b.3) (em ∙ ap (λ x. rs ++ x ∷ []) told)
plays_work store old mid new v (Ok (Refused rows why shapes)) r rs more was mid_is is work h b told em =
    plays_committed store old mid new b.0 v (replies.Refused rows why) (said.Refused (length rows) (report_text shapes rows)) rs more was mid_is is b.1 b.2.0 h b.2.1.0
    (λ cs. ap (λ (x : SessionReply). Some (up_to_event None cs (rs ++ x ∷ []))) (told_refused rows shapes _ b.2.1.1)) (ap (λ s. s.number) b.3) (ap (λ s. s.current) b.3) (em ∙ ap (λ x. rs ++ x ∷ []) told)
plays_work store old mid new v (Err commits.NoTransaction) r rs more was mid_is is work h b told em =
    absurd (no_work_of old.current work (sym h.current ∙ plain_none mid b.0))
plays_work store old mid new v (Err commits.Memory) r rs more was mid_is is work h b told em = absurd (let z : commits.Memory ≡ commits.NoTransaction = told.0 in cc)

-- the results of a refusal are a listing
listed_by : (store : SharedStore) (old new : StoreSession) (w : OpenTransaction) (a : Committed) → AnswersCommit store old new w a → IsListed a
listed_by store old new w (ReadOnly v) b = tt
listed_by store old new w (Done n why) b = tt
listed_by store old new w (Conflict n t) b = tt
listed_by store old new w (FullTriples n) b = tt
listed_by store old new w LogFault b = tt
listed_by store old new w (Stopped n) b = tt
listed_by store old new w (Refused rows why shapes) b = (_, b.1.2)

pub listed : (store : SharedStore) (old new : StoreSession) (a : Result Committed CommitFault) → MatchResult a (Commits store old new) (λ f. CommitsNot f store old new) → IfOk a IsListed
listed store old new (Ok a) b = listed_by store old new b.0 a b.2
listed store old new (Err f) b = tt

-- what a command did, where memory didn't run out
pub plays_ok : {U E : Type 0} (store : SharedStore) (old new : StoreSession) (c : Command) (rs more : List SessionReply) (r : Result U E) → {u : U} → r ≡ Ok u → OnOk r (Plays store old new c rs more) → Plays store old new c rs more
plays_ok store old new c rs more (Ok u) e h = h
plays_ok store old new c rs more (Err x) e h = cc

-- the next command of the file
pub play_step : (store : SharedStore) (start mid new : StoreSession) (file left rest : List Command) (c : Command) (rs more : List SessionReply) → left ≡ c ∷ rest
    → (HasPlayed store start.number start.pass.known.front file (first_state file) → HasPlayed store mid.number mid.pass.known.front file (up_to_event (plain_in mid.current) left rs)) → Plays store mid new c rs more
    → HasPlayed store start.number start.pass.known.front file (first_state file) → HasPlayed store new.number new.pass.known.front file (up_to_event (plain_in new.current) rest more)
play_step store start mid new file left rest c rs more e g o h = o.goes file rest (subst (λ (ds : List Command). HasPlayed store mid.number mid.pass.known.front file (up_to_event (plain_in mid.current) ds rs)) e (g h))

-- the answers of a head and of a check
head_taken : (store : SharedStore) (old new : StoreSession) (a : Result ℕ HeadFault) (v : ℕ) → a ≡ Ok v → MatchResult a (λ v. Heads store old new v) (λ f. HeadsNot f store old new) → Heads store old new v
head_taken store old new a v e h = subst (λ x. MatchResult x (λ v. Heads store old new v) (λ f. HeadsNot f store old new)) e h

pub checked_ready : (store : SharedStore) (old head mid : StoreSession) (a : Result ℕ HeadFault) (v : ℕ) (k : Result Bool CheckFault) (b : Bool) → a ≡ Ok v → MatchResult a (λ v. Heads store old head v) (λ f. HeadsNot f store old head) → k ≡ Ok b
    → MatchResult k (λ kept. ChecksHead kept head mid) (λ f. ChecksNot f head mid) → Readies store old mid v
checked_ready store old head mid a v k b ea h ek c = readies store old head mid v b (head_taken store old head a v ea h) (subst (λ x. MatchResult x (λ kept. ChecksHead kept head mid) (λ f. ChecksNot f head mid)) ek c)

pub plays_find : {V : Type 0} (items : V → List Triple) (store : SharedStore) (old new : StoreSession) (p : Pattern) (a : Result V FindFault) (r : SessionReply) (rs more : List SessionReply) → IsSession store old
    → MatchResult a (λ v. (w : OpenTransaction) × IsOpen old w × (items v ≡ found_by (plain w) p) × (new ≡ record old { current = Some (with_find w p) })) (λ f. FindsNot f old new)
    → MatchResult a (λ v. r ≡ Sessions.find_reply (items v)) (λ f. IsFindRefusal f r) → more ≡ rs ++ r ∷ [] → Plays store old new (Find p) rs more
plays_find {V} items store old new p (Ok v) r rs more is h reply em = plays_found store old new p h.0 r rs more (items v) (found_session store old new h.0 p is h.1 h.3) h.1 h.2 h.3 reply em
plays_find {V} items store old new p (Err f) r rs more is h reply em = plays_not_found store old new p f r rs more is h reply em

-- all commands were done
pub plays_all : (store : SharedStore) (old new : StoreSession) (file left : List Command) (rs : List SessionReply) → left ≡ [] → IsSession store new → new.number ≡ old.number
    → (HasPlayed store old.number old.pass.known.front file (first_state file) → HasPlayed store new.number new.pass.known.front file (up_to_event (plain_in new.current) left rs)) → PlaysAll store old new file rs
plays_all store old new file left rs none is n g = record {
  current = plain_in new.current;
  session = is;
  number = n;
  goes = λ h. subst (λ (cs : List Command). HasPlayed store new.number new.pass.known.front file (up_to_event (plain_in new.current) cs rs)) none (g h);
}

-- what a session does by itself leaves its caller as it was
pub found_pass : {V : Type 0} (items : V → List Triple) (store : SharedStore) (old new : StoreSession) (p : Pattern) (a : Result V FindFault) → IsSession store old
    → MatchResult a (λ v. (w : OpenTransaction) × IsOpen old w × (items v ≡ found_by (plain w) p) × (new ≡ record old { current = Some (with_find w p) })) (λ f. FindsNot f old new) → new.pass.lock ≡ store.id
found_pass items store old new p (Ok v) is h = ap (λ (s : StoreSession). s.pass.lock) h.3 ∙ is.caller.lock
found_pass items store old new p (Err finds.NoTransaction) is h = ap (λ (s : StoreSession). s.pass.lock) h.1 ∙ is.caller.lock
found_pass items store old new p (Err finds.Memory) is h = ap (λ (s : StoreSession). s.pass.lock) h.1 ∙ is.caller.lock

pub selected_pass : {V : Type 0} (rows_of : V → List (List Term)) (store : SharedStore) (old new : StoreSession) (ps : List (JoinPattern Term)) (a : Result V SelectFault) → IsSession store old
    → MatchResult a (λ v. (w : OpenTransaction) × IsOpen old w × AreSelected (graph_so_far w) ps (rows_of v) × (new ≡ record old { current = Some (with_finds w (map opened ps)) })) (λ f. SelectsNot f ps old new) → new.pass.lock ≡ store.id
selected_pass rows_of store old new ps (Ok v) is h = ap (λ (s : StoreSession). s.pass.lock) h.3 ∙ is.caller.lock
selected_pass rows_of store old new ps (Err selects.NoTransaction) is h = ap (λ (s : StoreSession). s.pass.lock) h.1 ∙ is.caller.lock
selected_pass rows_of store old new ps (Err selects.TooMany) is h = ap (λ (s : StoreSession). s.pass.lock) h.3 ∙ is.caller.lock
selected_pass rows_of store old new ps (Err selects.Memory) is h = ap (λ (s : StoreSession). s.pass.lock) h.1 ∙ is.caller.lock

pub aborted_pass : (store : SharedStore) (old new : StoreSession) (b : Bool) → IsSession store old → MatchBool b (((w : OpenTransaction) × IsOpen old w) × (new ≡ record old { current = None; head = None })) ((old.current ≡ None) × (new ≡ old)) → new.pass.lock ≡ store.id
aborted_pass store old new true is h = ap (λ (s : StoreSession). s.pass.lock) h.1 ∙ is.caller.lock
aborted_pass store old new false is h = ap (λ (s : StoreSession). s.pass.lock) h.1 ∙ is.caller.lock
