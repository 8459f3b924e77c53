-- What each command does to a session.
use Rattle.std.proofs.Common.{◌≡◌, ◌≢◌, ℕ, ◌+◌, ◌<◌, ◌≤◌, Bool, true, false, nat_lt, List, [], ◌∷◌, ◌++◌, length, map, Option, Some, None, refl, sym, ap, ◌∙◌, subst, arith, append_assoc}
use Rattle.std.proofs.lemmas.List.{map-append, append-nil}
use Rattle.store_model.specs.declared.event.Event.{Event}
use Rattle.std.specs.Prelude.{IfOk, MatchBool, Result, Ok, Err}
use Rattle.std.specs.declared.alloc.AllocError.{AllocError}
use Rattle.std.proofs.lemmas.Bool.Decides.{nat_tests}
use Rattle.rdf_model.specs.Graphs.{after}
use Rattle.rdf_model.specs.declared.change.Change.{Change}
use Rattle.rdf_model.specs.declared.triple.Triple.{Triple}
use Rattle.rdf_model.specs.declared.term.Term.{Term}
use Rattle.bgp_query.specs.declared.pattern.JoinPattern.{JoinPattern}
use Rattle.bgp_query.specs.TermBindings.{opened}
use Rattle.store_model.specs.declared.event.Action.TheVariants as actions
use Rattle.store_model.specs.declared.event.NameKind.{NameKind}
use Rattle.store_model.specs.declared.event.Reply.{Reply}
use Rattle.store_model.specs.declared.event.Reply.TheVariants.{Session, SessionsFull, Version, Named, Unknown, Full}
use Rattle.store_model.specs.declared.commit.Transaction.{Transaction}
use Rattle.store_model.specs.declared.commit.Verdict.{Verdict}
use Rattle.session_model.specs.declared.command.Command.{Command}
use Rattle.session_model.specs.declared.command.Command.TheVariants.{Begin, Commit, Report, Select}
use Rattle.session_model.specs.declared.reply.SessionReply.{SessionReply}
use Rattle.session_model.specs.declared.reply.SessionReply.TheVariants.{Begun, ReadOnly, Reported}
use Rattle.store_model.specs.Store.{State, RecordedStore, StepOf, OpensNext, OpensNothing, TakesStep, Replays, IsOpened, HasChange, version}
use Rattle.store_model.specs.Logs.{is_fault}
use Rattle.store_model.specs.Snapshots.{Snapshot, snapshot_of}
use Rattle.store_model.specs.declared.event.Limits.{Limits}
use Rattle.session_model.specs.Reports.{ReportedGraph}
use Rattle.session_model.specs.Sessions as Sessions
use Rattle.session_model.specs.Sessions.{LocalAnswer, answers, local_answer, local_commit, up_to_event, begun, parts_of, action_of, commit_action, after_reply, GoesOn, SessionState}
use Rattle.session_transaction.specs.declared.transaction.ChangeKind.{ChangeKind}
use Rattle.session_transaction.specs.declared.transaction.ChangeKind.TheVariants.{Addition, Removal, Attachment}
use Rattle.session_transaction.specs.declared.transaction.OpenTransaction.{OpenTransaction}
use Rattle.session_transaction.specs.Transactions.{FitsState, command_of, plain, with_finds}
use Rattle.session_transaction.specs.declared.committing.Committed.{Committed}
use Rattle.session_transaction.specs.declared.committing.Committed.TheVariants as committeds
use Rattle.session_transaction.specs.Commits.{IsAnswer, IsCommitted, IsNoFault}
use Rattle.session_transaction.specs.Replies.{IsCommitReply, IsRefused, answer_in}
use Rattle.session_transaction.proofs.Fitting.{after_named, after_unnamed, unknown_attaches}
use Rattle.session_transaction.proofs.Blocks.{IsBlock}
use Rattle.session_transaction.proofs.Checking.{check_keeps, version_now}
use Rattle.session_transaction.specs.Checks.{Checks, KeepsIn}
use Rattle.session_transaction.proofs.Listed.{sound_answer}
use Rattle.session_transaction.proofs.Refusing.{refused_by}
use Rattle.session_laws.proofs.Placing.{within}
use Rattle.session_player.specs.Progress.{Advances, order_of}
use Rattle.session_player.proofs.Advancing.{Advances-then, Advances-local, Advances-event, Advances-commit}
use Rattle.session_model.proofs.Walking.{up_to_event-event}
use Rattle.session_player.specs.Ready.{CommitsWith, IsNamingRefusal, IsReady, Performs, PerformsAll, TakesHead, is_commit, places_with, places_of}

-- a step is one place more
pub one_place : (s n : RecordedStore) (e : Event) → TakesStep s n e → order_of n.history ≡ order_of s.history ++ e.session ∷ []
one_place s n e a = ap order_of a.history ∙ map-append (λ (x : Event). x.session) s.history (e ∷ [])

local_places : (i : ℕ) (s : RecordedStore) (w v : Option Sessions.OpenTransaction) (c : Command) (t : SessionReply) → local_answer w c ≡ answers t v → order_of s.history ≡ order_of s.history ++ places_of i w c
local_places i s w v c t l = sym (append-nil (order_of s.history)) ∙ sym (ap (λ (a : Option LocalAnswer). order_of s.history ++ places_with i (is_commit c) a) l)

pub obeys_local : (i : ℕ) (s : RecordedStore) (w v : Option Sessions.OpenTransaction) (c : Command) (replies more : List SessionReply) (t : SessionReply) → local_answer w c ≡ answers t v → more ≡ replies ++ t ∷ [] → IsReady s i v → Performs i s s w v c replies more
obeys_local i s w v c replies more t l e r = record {
  ready = r;
  order = local_places i s w v c t l;
  advances = λ cs. subst (λ (ts : List SessionReply). Advances i s s (up_to_event w (c ∷ cs) replies) (up_to_event v cs ts)) (sym e) (Advances-local i s w v c cs replies t l);
}

-- a select, whatever it is answered
pub performs_select : (i : ℕ) (s : RecordedStore) (w v : OpenTransaction) (ps : List (JoinPattern Term)) (t : SessionReply) (replies more : List SessionReply) → IsReady s i (Some (plain w)) → v ≡ with_finds w (map opened ps) → Sessions.select_reply (Sessions.selected_by (plain w) ps) ≡ t
    → more ≡ replies ++ t ∷ [] → Performs i s s (Some (plain w)) (Some (plain v)) (Select ps) replies more
performs_select i s w v ps t replies more r ev et em =
    let after : OpenTransaction = with_finds w (map opened ps) in
    let fits = r.current.fits in
    let ready : IsReady s i (Some (plain after)) = record { opened = r.opened; current = record { fits = record { base = fits.base; net = fits.net; staged = fits.staged; verdict = fits.verdict }; head_taken = refl } } in
    let local : local_answer (Some (plain w)) (Select ps) ≡ answers t (Some (plain after)) = ap (λ x. answers x (Some (plain after))) et in
    subst (λ (x : OpenTransaction). Performs i s s (Some (plain w)) (Some (plain x)) (Select ps) replies more) (sym ev) (obeys_local i s (Some (plain w)) (Some (plain after)) (Select ps) replies more t local em ready)

pub told_select : (r : Result SessionReply AllocError) (rows all : List (List Term)) → rows ≡ all → IfOk r (λ x. x ≡ Sessions.select_reply rows) → IfOk r (λ x. Sessions.select_reply all ≡ x)
told_select (Ok x) rows all e h = sym (h ∙ ap Sessions.select_reply e)
told_select (Err fault) rows all e h = tt

-- a report
pub performs_report : (i : ℕ) (s : RecordedStore) (w : OpenTransaction) (r : ReportedGraph) (replies more : List SessionReply) → IsReady s i (Some (plain w)) → r ≡ record { graph = w.snap.graph; shapes = w.snap.shapes } → more ≡ replies ++ Reported r ∷ []
    → Performs i s s (Some (plain w)) (Some (plain w)) Report replies more
performs_report i s w r replies more ready er em = obeys_local i s (Some (plain w)) (Some (plain w)) Report replies more (Reported r) (ap (λ (x : ReportedGraph). answers (Reported x) (Some (plain w))) (sym er)) em ready

pub performs_begin : (i : ℕ) (s n : RecordedStore) (replies more : List SessionReply) (v : ℕ) (graph shapes : List Triple) → IsOpened s.state i → TakesStep s n (record { session = i; action = actions.Begin; reply = Version v }) → graph ≡ s.state.graph → shapes ≡ s.state.shapes → more ≡ replies ++ Begun v ∷ [] → Performs i s n None (Some (begun v graph shapes)) Begin replies more
performs_begin i s n replies more v graph shapes g a eg es em =
    let count : v ≡ version s.state = cc (a.step.1.0) in
    let same : n.state ≡ s.state = a.step.1.1 in
    record {
      ready = record {
        opened = subst (λ (x : State). IsOpened x i) (sym same) g;
        current = record { fits = record { base = subst (λ (x : State). v ≤ version x) (sym same) (omega (arith, count)); net = tt; staged = tt; verdict = refl }; head_taken = refl };
      };
      order = one_place s n (record { session = i; action = actions.Begin; reply = Version v }) a;
      advances = λ cs.
          subst (λ (ts : List SessionReply). Advances i s n (up_to_event None (Begin ∷ cs) replies) (up_to_event (Some (begun v graph shapes)) cs ts)) (sym em)
          (subst (λ (g : List Triple). Advances i s n (up_to_event None (Begin ∷ cs) replies) (up_to_event (Some (begun v g shapes)) cs (replies ++ Begun v ∷ []))) (sym eg)
          (subst (λ (ts : List Triple). Advances i s n (up_to_event None (Begin ∷ cs) replies) (up_to_event (Some (begun v s.state.graph ts)) cs (replies ++ Begun v ∷ []))) (sym es)
          (Advances-event i s n None Begin cs replies actions.Begin (Version v) _ g (record { event = refl; next = refl }) refl a)));
    }

block_order : (i : ℕ) (s n : RecordedStore) (c : Command) (kind : NameKind) (ts : List Triple) (staged : OpenTransaction → OpenTransaction) (done : SessionReply) (w : OpenTransaction) (r : Reply) → IsBlock c kind ts staged done → is_commit c ≡ false
    → TakesStep s n (record { session = i; action = actions.Name kind (parts_of ts); reply = r }) → order_of n.history ≡ order_of s.history ++ places_of i (Some (plain w)) c
block_order i s n c kind ts staged done w r k other a =
    let one : places_of i (Some (plain w)) c ≡ i ∷ [] = ap (λ (b : Bool). places_with i b (local_answer (Some (plain w)) c)) other ∙ ap (places_with i false) (k.event (plain w)) in
    one_place s n (record { session = i; action = actions.Name kind (parts_of ts); reply = r }) a ∙ sym (ap (λ (is : List ℕ). order_of s.history ++ is) one)

block_advances : (i : ℕ) (s n : RecordedStore) (c : Command) (kind : NameKind) (ts : List Triple) (staged : OpenTransaction → OpenTransaction) (done : SessionReply) (w : OpenTransaction) (r : Reply) (cs : List Command) (replies : List SessionReply) (q : SessionState) → IsBlock c kind ts staged done → IsOpened s.state i
    → TakesStep s n (record { session = i; action = actions.Name kind (parts_of ts); reply = r }) → after_reply s.state (Some (plain w)) c cs replies r ≡ Some q → is_fault r ≡ false → Advances i s n (up_to_event (Some (plain w)) (c ∷ cs) replies) q
block_advances i s n c kind ts staged done w r cs replies q k g a after sound =
    let on : GoesOn s.state (Some (plain w)) c cs replies (actions.Name kind (parts_of ts)) r q = record { event = k.action (plain w); next = after } in
    subst (λ (p : SessionState). Advances i s n p q) (sym (up_to_event-event (Some (plain w)) c cs replies (k.event (plain w))))
    (Advances-event i s n (Some (plain w)) c cs replies (actions.Name kind (parts_of ts)) r q g on sound a)

-- a block whose terms were named
pub performs_block : (i : ℕ) (s n : RecordedStore) (c : Command) (kind : NameKind) (ts : List Triple) (staged : OpenTransaction → OpenTransaction) (done : SessionReply) (w : OpenTransaction) (replies more : List SessionReply) → IsBlock c kind ts staged done → is_commit c ≡ false → IsReady s i (Some (plain w))
    → TakesStep s n (record { session = i; action = actions.Name kind (parts_of ts); reply = Named }) → more ≡ replies ++ done ∷ [] → Performs i s n (Some (plain w)) (Some (plain (staged w))) c replies more
performs_block i s n c kind ts staged done w replies more k other r a em =
    let state = after_named s.limits s.state n.state i kind ts a.step in
    record {
      ready = record {
        opened = subst (λ (x : State). IsOpened x i) (sym state) r.opened;
        current = record { fits = k.fits w s.state n.state state r.current.fits; head_taken = refl };
      };
      order = block_order i s n c kind ts staged done w Named k other a;
      advances = λ cs. subst (λ (x : List SessionReply). Advances i s n (up_to_event (Some (plain w)) (c ∷ cs) replies) (up_to_event (Some (plain (staged w))) cs x)) (sym em)
          (block_advances i s n c kind ts staged done w Named cs replies _ k r.opened a (k.named s.state w cs replies) refl);
    }

-- one whose terms weren't named
refusal_unnamed : (r : Reply) (reply : SessionReply) → IsNamingRefusal r reply → r ≢ Named
refusal_unnamed r reply h e = subst (λ (x : Reply). IsNamingRefusal x reply) e h

refusal_sound : (r : Reply) (reply : SessionReply) → IsNamingRefusal r reply → is_fault r ≡ false
refusal_sound (Unknown node) reply h = refl
refusal_sound (Full n) reply h = refl
refusal_sound r reply h = absurd h

after_refusal : (l : Limits) (s t : State) (i : ℕ) (c : Command) (kind : NameKind) (ts : List Triple) (staged : OpenTransaction → OpenTransaction) (done : SessionReply) (w : OpenTransaction) (r : Reply) (reply : SessionReply) (cs : List Command) (replies : List SessionReply) → IsBlock c kind ts staged done
    → StepOf l s i (actions.Name kind (parts_of ts)) r t → IsNamingRefusal r reply → after_reply s (Some (plain w)) c cs replies r ≡ Some (up_to_event (Some (plain w)) cs (replies ++ reply ∷ []))
after_refusal l s t i c kind ts staged done w (Unknown node) reply cs replies k a h = rw h (k.unknown s w node cs replies (unknown_attaches l s t i kind (parts_of ts) node a))
after_refusal l s t i c kind ts staged done w (Full n) reply cs replies k a h = rw h (k.full s w n cs replies)
after_refusal l s t i c kind ts staged done w r reply cs replies k a h = absurd h

-- it changes nothing
pub performs_refusal : (i : ℕ) (s n : RecordedStore) (c : Command) (kind : NameKind) (ts : List Triple) (staged : OpenTransaction → OpenTransaction) (done : SessionReply) (w : OpenTransaction) (r : Reply) (reply : SessionReply) (replies more : List SessionReply) → IsBlock c kind ts staged done → is_commit c ≡ false → IsReady s i (Some (plain w))
    → TakesStep s n (record { session = i; action = actions.Name kind (parts_of ts); reply = r }) → IsNamingRefusal r reply → more ≡ replies ++ reply ∷ [] → Performs i s n (Some (plain w)) (Some (plain w)) c replies more
performs_refusal i s n c kind ts staged done w r reply replies more k other g a h em =
    let state : n.state ≡ s.state = after_unnamed s.limits s.state n.state i kind (parts_of ts) r (refusal_unnamed r reply h) a.step in
    record {
      ready = record {
        opened = subst (λ (x : State). IsOpened x i) (sym state) g.opened;
        current = record { fits = subst (FitsState w.transaction) (sym state) g.current.fits; head_taken = refl };
      };
      order = block_order i s n c kind ts staged done w r k other a;
      advances = λ cs. subst (λ (x : List SessionReply). Advances i s n (up_to_event (Some (plain w)) (c ∷ cs) replies) (up_to_event (Some (plain w)) cs x)) (sym em)
          (block_advances i s n c kind ts staged done w r cs replies _ k g.opened a (after_refusal s.limits s.state n.state i c kind ts staged done w r reply cs replies k a.step h) (refusal_sound r reply h));
    }

pub no_commit : (k : ChangeKind) (ts : List Triple) → is_commit (command_of k ts) ≡ false
no_commit Addition ts = refl
no_commit Removal ts = refl
no_commit Attachment ts = refl

-- a command whose block is refused
pub performs_refused : (i : ℕ) (s : RecordedStore) (w : Option Sessions.OpenTransaction) (c : Command) (reply : SessionReply) (replies more : List SessionReply) → IsRefused c reply → IsReady s i w → more ≡ replies ++ answer_in w reply ∷ [] → Performs i s s w w c replies more
performs_refused i s w c reply replies more h ready e = obeys_local i s w w c replies more (answer_in w reply) (refused_by c reply w h) e ready

-- a commit that changes something or stages shapes is an event
pub local-change : (w : Sessions.OpenTransaction) (net : List Change) (staged : Option (List Triple)) → HasChange net staged → local_commit w net staged ≡ None
local-change w [] None h = absurd h
local-change w [] (Some ts) h = refl
local-change w (c ∷ cs) staged h = refl

pub has_change : (net : List Change) (staged : Option (List Triple)) → 0 < length net → HasChange net staged
has_change [] staged h = absurd (omega (arith, h))
has_change (c ∷ cs) staged h = tt

pub stages_change : (net : List Change) (ts : List Triple) → HasChange net (Some ts)
stages_change [] ts = tt
stages_change (c ∷ cs) ts = tt

pub no_items : {X : Type 0} (xs : List X) → length xs ≡ 0 → xs ≡ []
no_items [] h = refl
no_items (x ∷ xs) h = absurd (omega (arith, h))

pub local-none : (w : Sessions.OpenTransaction) (net : List Change) (staged : Option (List Triple)) → net ≡ [] → staged ≡ None → local_commit w net staged ≡ answers (ReadOnly w.transaction.base) None
local-none w net staged en es = ap (λ (cs : List Change). local_commit w cs staged) en ∙ ap (local_commit w []) es

given_n : (i : ℕ) (s m n : RecordedStore) (x : Transaction) (v : ℕ) (r : Reply) → IsOpened s.state i → TakesStep s m (record { session = i; action = actions.Head; reply = Version v }) → TakesStep m n (record { session = i; action = actions.Commit x; reply = r }) → IsOpened n.state i
given_n i s m n x v r g h a =
    let one : m.state.opened ≡ s.state.opened = ap (λ (y : State). y.opened) h.step.1.1 in
    let two = (within m.limits m.state n.state i (actions.Commit x) r refl a.step).same in
    (g.0, subst (λ (k : ℕ). i ≤ k) (sym (two ∙ one)) g.1)

commit_order : (i : ℕ) (s m n : RecordedStore) (w : Sessions.OpenTransaction) (y : Transaction) (v : ℕ) (r : Reply) → HasChange w.transaction.net w.transaction.staged → TakesStep s m (record { session = i; action = actions.Head; reply = Version v })
    → TakesStep m n (record { session = i; action = actions.Commit y; reply = r }) → order_of n.history ≡ order_of s.history ++ places_of i (Some w) Commit
commit_order i s m n w y v r some h a =
    let both : order_of n.history ≡ (order_of s.history ++ i ∷ []) ++ i ∷ [] = one_place m n _ a ∙ ap (λ (is : List ℕ). is ++ i ∷ []) (one_place s m _ h) in
    both ∙ (append_assoc (order_of s.history) (i ∷ []) (i ∷ []) ∙ sym (ap (λ (x : Option LocalAnswer). order_of s.history ++ places_with i true x) (local-change w w.transaction.net w.transaction.staged some)))

-- the store answered the commit, after its head
pub performs_commit : (i : ℕ) (s m n : RecordedStore) (w : Sessions.OpenTransaction) (replies more : List SessionReply) (v : ℕ) (o : Option Verdict) (r : Reply) (t : SessionReply) → IsReady s i (Some w) → HasChange w.transaction.net w.transaction.staged
    → TakesStep s m (record { session = i; action = actions.Head; reply = Version v }) → TakesStep m n (record { session = i; action = actions.Commit (record w.transaction { verdict = o }); reply = r })
    → ((cs : List Command) → after_reply m.state (Some (record w { head_taken = true })) Commit cs replies r ≡ Some (up_to_event None cs (replies ++ t ∷ []))) → is_fault r ≡ false → more ≡ replies ++ t ∷ []
    → Performs i s n (Some w) None Commit replies more
performs_commit i s m n w replies more v o r t ready some h a by sound em = record {
  ready = record { opened = given_n i s m n (record w.transaction { verdict = o }) v r ready.opened h a; current = tt };
  order = commit_order i s m n w (record w.transaction { verdict = o }) v r some h a;
  advances = λ cs.
      let u : Sessions.OpenTransaction = record w { head_taken = true } in
      let head : action_of (Some w) Commit ≡ Some actions.Head = ap (λ b. Some (commit_action b w.transaction)) ready.current.head_taken in
      let start : up_to_event (Some w) (Commit ∷ cs) replies ≡ record { current = Some w; commands = Commit ∷ cs; replies = replies } = up_to_event-event (Some w) Commit cs replies (local-change w w.transaction.net w.transaction.staged some) in
      let mid : SessionState = record { current = Some u; commands = Commit ∷ cs; replies = replies } in
      let last : SessionState = up_to_event None cs (replies ++ t ∷ []) in
      let one : Advances i s m (record { current = Some w; commands = Commit ∷ cs; replies = replies }) mid =
      Advances-event i s m (Some w) Commit cs replies actions.Head (Version v) mid ready.opened (record { event = head; next = refl }) refl h in
      let given_m : IsOpened m.state i = subst (λ (x : State). IsOpened x i) (sym h.step.1.1) ready.opened in
      let two : Advances i m n mid last = Advances-commit i m n u cs replies o r last given_m ready.current.fits.verdict refl (by cs) sound a in
      let both : Advances i s n (record { current = Some w; commands = Commit ∷ cs; replies = replies }) last = Advances-then i s m n _ mid last one two in
      subst (λ (ts : List SessionReply). Advances i s n (up_to_event (Some w) (Commit ∷ cs) replies) (up_to_event None cs ts)) (sym em)
      (subst (λ (p : SessionState). Advances i s n p last) (sym start) both);
}

-- after its head the transaction fits the store still
pub fits_after : (i : ℕ) (s m : RecordedStore) (x : Transaction) → FitsState x s.state → TakesHead i s m → FitsState x m.state
fits_after i s m x f h = subst (FitsState x) (sym h.step.step.1.1) f

-- what a check at the head keeps is a verdict of the store's history
pub head_keeps : (s n : RecordedStore) (e : Event) (head : Snapshot) (b : Bool) (old new : OpenTransaction) → Replays s.limits s.start s.history s.state → TakesStep s n e → head ≡ snapshot_of s.limits.mode s.state → Checks b head old new → KeepsIn n.limits n.start n.history old.transaction.net new.checked
head_keeps s n e head b old new replays t is h =
    subst (λ (l : Limits). KeepsIn l n.start n.history old.transaction.net new.checked) (sym t.limits)
    (subst (λ (x : State). KeepsIn s.limits x n.history old.transaction.net new.checked) (sym t.start)
    (subst (λ (es : List Event). KeepsIn s.limits s.start es old.transaction.net new.checked) (sym t.history)
    (check_keeps s.limits s.start (s.history ++ e ∷ []) b head old new (version_now s.limits s.start s.history (e ∷ []) s.state head replays is) h)))

-- what the session tells of a commit's answer
told_commit : (s : State) (x : Transaction) (o : Option Verdict) (r : Reply) (a : Committed) (reply : SessionReply) (graph shapes : List Triple) (cs : List Command) (replies : List SessionReply) → IsAnswer s (record x { verdict = o }) r a → IsCommitReply a reply
    → after_reply s (Some (record { transaction = x; graph = graph; shapes = shapes; head_taken = true })) Commit cs replies r ≡ Some (up_to_event None cs (replies ++ reply ∷ []))
told_commit s x o r (committeds.ReadOnly v) reply graph shapes cs replies h k = absurd h
told_commit s x o r (committeds.Done n why) reply graph shapes cs replies h k = rw (h, k) refl
told_commit s x o r (committeds.Conflict n t) reply graph shapes cs replies h k = rw (h, k) refl
told_commit s x o r (committeds.FullTriples n) reply graph shapes cs replies h k = rw (h, k) refl
told_commit s x o r (committeds.Refused rows why own) reply graph shapes cs replies h k = rw (h.0, k, h.1) refl
told_commit s x o r committeds.LogFault reply graph shapes cs replies h k = rw (h, k) refl
told_commit s x o r (committeds.Stopped n) reply graph shapes cs replies h k = rw (h, k) refl

pub commits_with : (i : ℕ) (s n : RecordedStore) (x : Transaction) (o : Option Verdict) (counted now : ℕ) (a : Committed) (r : Result SessionReply AllocError) → IsCommitted s n i (record x { verdict = o }) counted now a → IsNoFault a → IfOk r (IsCommitReply a) → IfOk r (CommitsWith i s n x)
commits_with i s n x o counted now a (Ok reply) c none k = record { verdict = o; answer = c.reply; step = c.step; sound = sound_answer s.state (record x { verdict = o }) c.reply a c.told none; told = λ graph shapes cs replies. told_commit s.state x o c.reply a reply graph shapes cs replies c.told k }
commits_with i s n x o counted now a (Err error) c none k = tt

-- below 64 sessions, one more is given out
opens_one : (s t : State) (b : Bool) → nat_lt s.opened 64 ≡ b → s.opened < 64 → MatchBool b (OpensNext s 0 SessionsFull t) (OpensNothing s 0 SessionsFull t) → ⊥
opens_one s t true e lt h = let no : SessionsFull ≡ Session (s.opened + 1) = h.1.0 in cc
opens_one s t false e lt h = let up : nat_lt s.opened 64 ≡ true = grind (arith, nat_tests) in cc (up, e)

pub never_full : (s n : RecordedStore) → s.state.opened < 64 → TakesStep s n (record { session = 0; action = actions.Open; reply = SessionsFull }) → ⊥
never_full s n lt a = opens_one s.state n.state (nat_lt s.state.opened 64) refl lt a.step

-- so far, and the next command
pub performs_then : (i : ℕ) (s m n : RecordedStore) (p : SessionState) (w v : Option Sessions.OpenTransaction) (c : Command) (cs : List Command) (replies more : List SessionReply) → Advances i s m p (up_to_event w (c ∷ cs) replies) → Performs i m n w v c replies more → Advances i s n p (up_to_event v cs more)
performs_then i s m n p w v c cs replies more g o = Advances-then i s m n p (up_to_event w (c ∷ cs) replies) (up_to_event v cs more) g (o.advances cs)

pub perform_step : (i : ℕ) (s m n : RecordedStore) (p : SessionState) (w v : Option Sessions.OpenTransaction) (c : Command) (old new : List Command) (replies more : List SessionReply) → old ≡ c ∷ new → Advances i s m p (up_to_event w old replies) → Performs i m n w v c replies more → Advances i s n p (up_to_event v new more)
perform_step i s m n p w v c old new replies more e g o = performs_then i s m n p w v c new replies more (subst (λ (ds : List Command). Advances i s m p (up_to_event w ds replies)) e g) o

pub nothing_left : {X : Type 0} (xs : List X) → length xs ≡ 0 → xs ≡ []
nothing_left [] e = refl
nothing_left (x ∷ xs) e = absurd (omega (arith, e))

pub all_performed : (i : ℕ) (s m : RecordedStore) (cs left : List Command) (w : Option Sessions.OpenTransaction) (replies : List SessionReply) → left ≡ [] → IsReady m i w → Advances i s m (up_to_event None cs []) (up_to_event w left replies) → PerformsAll i s m cs replies
all_performed i s m cs left w replies none ready g = record { current = w; opened = ready.opened; advances = subst (λ (ds : List Command). Advances i s m (up_to_event None cs []) (up_to_event w ds replies)) none g }
