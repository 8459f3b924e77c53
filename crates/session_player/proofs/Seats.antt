-- Players of sessions, event by event.
use Rattle.std.proofs.Common.{◌≡◌, ◌≢◌, ℕ, zero, suc, ◌+◌, ◌-◌, ◌<◌, ◌≤◌, Bool, true, false, nat_eq, nat_lt, List, [], ◌∷◌, ◌++◌, length, map, set, get_or, slice_index_or, Option, Some, None, refl, sym, ap, ◌∙◌, subst, arith, append_assoc, length-append, drop, take, add-one, drop-cons, take-append-drop}
use Rattle.std.proofs.lemmas.List.{map-append, append-nil, append_cancel_left, take_all, length-map, drop_all}
use Rattle.std.proofs.lemmas.Bool.Decides.{nat_tests}
use Rattle.std.specs.Prelude.{MatchBool, IfOk, Result, Ok, Err}
use Rattle.std.specs.declared.alloc.AllocError.{AllocError}
use Rattle.session_player.specs.Histories.{MayTake, IsBadPlace, IsFirstBad, IsReplayed}
use Rattle.session_player.specs.declared.replay.HistoryFault.{HistoryFault}
use Rattle.session_player.specs.declared.replay.HistoryFault.TheVariants.{Place, Memory}
use Rattle.session_player.specs.Refused.{RefusesFrom, RefusesHistory}
use Rattle.std.proofs.Math.Seq.{take-suc}
use Rattle.std.specs.List.{AllByRecursion}
use Rattle.store_model.specs.declared.event.Action.TheVariants as actions
use Rattle.store_model.specs.declared.event.Event.{Event}
use Rattle.store_model.specs.declared.event.Limits.{Limits}
use Rattle.store_model.specs.declared.event.Reply.TheVariants.{Session, Version}
use Rattle.store_model.specs.Store.{State, RecordedStore, empty_store, TakesStep, IsOpened, HasChange, OpensNext, OpensNothing}
use Rattle.session_model.specs.declared.command.Command.{Command}
use Rattle.session_model.specs.declared.command.Command.TheVariants.{Commit}
use Rattle.session_model.specs.declared.reply.SessionReply.{SessionReply}
use Rattle.session_model.specs.Sessions.{OpenTransaction, SessionState, World, LocalAnswer, local_answer, up_to_event, action_of, commit_action, no_session, session_at, world, RunsOpening, RunsEvent, RunsInOrder, IsComplete, start}
use Rattle.session_model.proofs.Walking.{RunsInOrder-append, get-middle, set-middle, up_to_event-event}
use Rattle.session_player.specs.Progress.{Advances, order_of}
use Rattle.session_player.specs.Ready.{IsCurrent, IsCurrentIn, Performs, TakesHead, CommitsWith, is_commit, places_with, places_of}
use Rattle.commit_core.specs.declared.checked.CheckedNet.{CheckedNet}
use Rattle.session_transaction.specs.Checks.{KeepsIn}
use Rattle.session_transaction.specs.Transactions.{FitsState}
use Rattle.session_player.specs.Players.{Player, Finishes, state_of, held, IsHeld, KeepsCheck, IsCommitNext, MayGoOn, TakesEvent, Plays, PlaysAll, AreReady, StopsAt, EndsAll, states_of, new_player}
use Rattle.session_player.proofs.Advancing.{Advances-event, Advances-commit, OpensNext-runs, all-append}
use Rattle.session_transaction.proofs.Growing.{More, more_same, more_step, more_then}
use Rattle.session_transaction.proofs.Fitting.{state_more}
use Rattle.session_transaction.proofs.Checking.{keeps_last}
use Rattle.session_player.proofs.Playing.{one_place, local-change}

more_event : (l : Limits) (m n : World) (i : ℕ) (w : Option OpenTransaction) (cs : List Command) (replies : List SessionReply) → RunsEvent l m i false w cs replies n → More m.state n.state
more_event l m n i w [] replies h = absurd h
more_event l m n i w (c ∷ cs) replies h = subst (λ (t : State). More m.state t) (sym (ap (λ (x : World). x.state) h.6)) (more_step l m.state h.2 i h.0 h.1 h.5)

more_place : (l : Limits) (m n : World) (i : ℕ) (b : Bool) → MatchBool b (RunsOpening l m i false n) (RunsEvent l m i false (session_at m i).current (session_at m i).commands (session_at m i).replies n) → More m.state n.state
more_place l m n i true h = subst (λ (t : State). More m.state t) (sym (ap (λ (x : World). x.state) h.1.3)) (more_step l m.state h.1.1 i actions.Open h.1.0 h.1.2)
more_place l m n i false h = more_event l m n i (session_at m i).current (session_at m i).commands (session_at m i).replies h

pub more_run : (l : Limits) (m n : World) (order : List ℕ) → RunsInOrder l m order None n → More m.state n.state
more_run l m n [] h = more_same m.state n.state (ap (λ (x : World). x.state) h)
more_run l m n (i ∷ order) h = more_then m.state h.0.state n.state (more_place l m h.0 i (nat_eq i (m.state.opened + 1)) h.1) (more_run l h.0 n order h.2)

current_later : (s t : RecordedStore) (w : Option OpenTransaction) → More s.state t.state → IsCurrentIn s w → IsCurrentIn t w
current_later s t None g h = tt
current_later s t (Some w) g h = record { fits = state_more w.transaction s.state t.state g h.fits; head_taken = h.head_taken }

-- the store took steps, whose events stand last
pub record IsLater (s t : RecordedStore) : Type 0 where
  pub more : More s.state t.state
  pub limits : t.limits ≡ s.limits
  pub start : t.start ≡ s.start
  pub events : List Event
  pub history : t.history ≡ s.history ++ events

kept_later : (s t : RecordedStore) (b : Bool) (w : Option OpenTransaction) (o : Option CheckedNet) → IsLater s t → KeepsCheck b s w o → KeepsCheck b t w o
kept_later s t false w o g h = tt
kept_later s t true None o g h = tt
kept_later s t true (Some w) o g h =
    subst (λ (l : Limits). KeepsIn l t.start t.history w.transaction.net o) (sym g.limits)
    (subst (λ (b : State). KeepsIn s.limits b t.history w.transaction.net o) (sym g.start)
    (subst (λ (es : List Event). KeepsIn s.limits s.start es w.transaction.net o) (sym g.history) (keeps_last s.limits s.start s.history g.events w.transaction.net o h)))

-- players may go on, whatever the others did
go_on_later : (s t : RecordedStore) (p : Player) → IsLater s t → MayGoOn s p → MayGoOn t p
go_on_later s t p g h = record { current = current_later s t p.current g.more h.current; held = h.held; kept = kept_later s t p.head_taken p.current p.checked g h.kept }

all_later : (s t : RecordedStore) (ps : List Player) → IsLater s t → AllByRecursion (MayGoOn s) ps → AllByRecursion (MayGoOn t) ps
all_later s t [] g h = tt
all_later s t (p ∷ ps) g h = (go_on_later s t p g h.0, all_later s t ps g h.1)

-- sessions before another
abbrev blanks : ℕ → List SessionState
blanks zero = []
blanks (suc k) = no_session ∷ blanks k

length-blanks : (k : ℕ) → length (blanks k) ≡ k
length-blanks zero = refl
length-blanks (suc k) = ap suc (length-blanks k)

no_events : (es : List Event) → order_of es ≡ [] → es ≡ []
no_events [] h = refl
no_events (e ∷ es) h = cc

-- without an event all is as it was
still : (i : ℕ) (s n : RecordedStore) (p q : SessionState) (g : Advances i s n p q) → 0 < i → order_of g.events ≡ [] → (n ≡ s) × (q ≡ p)
still i s n p q g some none =
    let before = blanks (i - 1) in
    let here : i ≡ length before + 1 = let k = length-blanks (i - 1) in omega (arith, k, some) in
    let run : RunsInOrder s.limits (world s.state (before ++ p ∷ [])) [] None (world n.state (before ++ q ∷ [])) =
    subst (λ (is : List ℕ). RunsInOrder s.limits (world s.state (before ++ p ∷ [])) is None (world n.state (before ++ q ∷ []))) none (g.runs before [] here) in
    let state : n.state ≡ s.state = ap (λ (m : World). m.state) run in
    let history : n.history ≡ s.history = g.history ∙ (ap (λ (es : List Event). s.history ++ es) (no_events g.events none) ∙ append-nil s.history) in
    let limits = g.limits in
    let start = g.start in
    let at : q ≡ p = sym (get-middle before [] q no_session) ∙ (ap (λ (m : World). get_or m.sessions (length before) no_session) run ∙ get-middle before [] p no_session) in
    (λ j. record { limits = limits j; start = start j; state = state j; history = history j }, at)

-- the events of a command are its places
places : (i : ℕ) (s n : RecordedStore) (p q : SessionState) (g : Advances i s n p q) (is : List ℕ) → order_of n.history ≡ order_of s.history ++ is → order_of g.events ≡ is
places i s n p q g is e =
    append_cancel_left (order_of s.history) (order_of g.events) is (sym (ap order_of g.history ∙ map-append (λ (x : Event). x.session) s.history g.events) ∙ e)

not_event : (i : ℕ) (c : Command) (a : Option LocalAnswer) → a ≢ None → places_with i (is_commit c) a ≡ []
not_event i c None ne = absurd (ne refl)
not_event i c (Some x) ne = refl

-- a command that is no event was done
pub settled : (i : ℕ) (s n : RecordedStore) (w v : Option OpenTransaction) (c : Command) (cs : List Command) (replies more : List SessionReply) → IsOpened s.state i → local_answer w c ≢ None → Performs i s n w v c replies more → (n ≡ s) × (up_to_event v cs more ≡ up_to_event w (c ∷ cs) replies)
settled i s n w v c cs replies more o ne h =
    let g = h.advances cs in
    still i s n (up_to_event w (c ∷ cs) replies) (up_to_event v cs more) g o.0 (places i s n _ _ g [] (h.order ∙ ap (λ (is : List ℕ). order_of s.history ++ is) (not_event i c (local_answer w c) ne)))

-- the next command of a player
abbrev pub player : List Command → Option OpenTransaction → Bool → Option CheckedNet → List SessionReply → Player
player cs w head o replies = record { commands = cs; current = w; head_taken = head; checked = o; replies = replies }

pub settles_step : (i : ℕ) (s m n : RecordedStore) (o p q : Player) (c : Command) (cs : List Command) → IsOpened m.state i → m ≡ s → state_of p ≡ state_of o → p.head_taken ≡ false → p.commands ≡ c ∷ cs → local_answer p.current c ≢ None
    → Performs i m n p.current q.current c p.replies q.replies → q.commands ≡ cs → q.head_taken ≡ false → (n ≡ s) × (MayGoOn n q × (state_of q ≡ state_of o))
settles_step i s m n o p q c cs g em es free next ne h rest free_q =
    let two = settled i m n p.current q.current c cs p.replies q.replies g ne h in
    let from : state_of p ≡ up_to_event p.current (c ∷ cs) p.replies = ap (λ (b : Bool). up_to_event (held b p.current) p.commands p.replies) free ∙ ap (λ (ds : List Command). up_to_event p.current ds p.replies) next in
    let to : state_of q ≡ up_to_event q.current cs q.replies = ap (λ (b : Bool). up_to_event (held b q.current) q.commands q.replies) free_q ∙ ap (λ (ds : List Command). up_to_event q.current ds q.replies) rest in
    (two.0 ∙ em, (record { current = h.ready.current; held = subst (λ (b : Bool). IsHeld b q.current q.commands) (sym free_q) tt; kept = subst (λ (b : Bool). KeepsCheck b n q.current q.checked) (sym free_q) tt }, to ∙ (two.1 ∙ (sym from ∙ es))))

-- an event that is no commit was done
pub takes_event : (i : ℕ) (s n : RecordedStore) (p q : Player) (c : Command) (cs : List Command) → p.head_taken ≡ false → p.commands ≡ c ∷ cs → local_answer p.current c ≡ None → is_commit c ≡ false
    → Performs i s n p.current q.current c p.replies q.replies → q.commands ≡ cs → q.head_taken ≡ false → TakesEvent i s n p q
takes_event i s n p q c cs free next event other h rest free_q =
    let from : state_of p ≡ up_to_event p.current (c ∷ cs) p.replies = ap (λ (b : Bool). up_to_event (held b p.current) p.commands p.replies) free ∙ ap (λ (ds : List Command). up_to_event p.current ds p.replies) next in
    let to : state_of q ≡ up_to_event q.current cs q.replies = ap (λ (b : Bool). up_to_event (held b q.current) q.commands q.replies) free_q ∙ ap (λ (ds : List Command). up_to_event q.current ds q.replies) rest in
    let one : places_of i p.current c ≡ i ∷ [] = ap (λ (b : Bool). places_with i b (local_answer p.current c)) other ∙ ap (places_with i false) event in
    record {
      ready = record { current = h.ready.current; held = subst (λ (b : Bool). IsHeld b q.current q.commands) (sym free_q) tt; kept = subst (λ (b : Bool). KeepsCheck b n q.current q.checked) (sym free_q) tt };
      advances = subst (λ (x : SessionState). Advances i s n x (state_of q)) (sym from) (subst (λ (x : SessionState). Advances i s n (up_to_event p.current (c ∷ cs) p.replies) x) (sym to) (h.advances cs));
      order = h.order ∙ ap (λ (is : List ℕ). order_of s.history ++ is) one;
    }

-- the commit has the newest version
abbrev headed : OpenTransaction → OpenTransaction
headed w = record w { head_taken = true }

takes_head : (i : ℕ) (s n : RecordedStore) (w : OpenTransaction) (cs : List Command) (was kept : Option CheckedNet) (replies : List SessionReply) → IsOpened s.state i → IsCurrent s w → HasChange w.transaction.net w.transaction.staged → TakesHead i s n → KeepsCheck true n (Some w) kept
    → TakesEvent i s n (player (Commit ∷ cs) (Some w) false was replies) (player (Commit ∷ cs) (Some w) true kept replies)
takes_head i s n w cs was kept replies o now some h k =
    let none = local-change w w.transaction.net w.transaction.staged some in
    let none_u = local-change (headed w) w.transaction.net w.transaction.staged some in
    let from = up_to_event-event (Some w) Commit cs replies none in
    let to = up_to_event-event (Some (headed w)) Commit cs replies none_u in
    let head : action_of (Some w) Commit ≡ Some actions.Head = ap (λ b. Some (commit_action b w.transaction)) now.head_taken in
    let one : Advances i s n (record { current = Some w; commands = Commit ∷ cs; replies = replies }) (record { current = Some (headed w); commands = Commit ∷ cs; replies = replies }) =
    Advances-event i s n (Some w) Commit cs replies actions.Head (Version h.number) _ o (record { event = head; next = refl }) refl h.step in
    record {
      ready = record { current = current_later s n (Some w) (more_step s.limits s.state n.state i actions.Head (Version h.number) h.step.step) now; held = (refl, some); kept = k };
      advances = subst (λ (x : SessionState). Advances i s n x (up_to_event (Some (headed w)) (Commit ∷ cs) replies)) (sym from)
          (subst (λ (x : SessionState). Advances i s n (record { current = Some w; commands = Commit ∷ cs; replies = replies }) x) (sym to) one);
      order = one_place s n (record { session = i; action = actions.Head; reply = Version h.number }) h.step;
    }

-- the same of any player whose commit is next
takes_version : (i : ℕ) (s n : RecordedStore) (cs : List Command) (current : Option OpenTransaction) (b : Bool) (was kept : Option CheckedNet) (replies : List SessionReply) → IsOpened s.state i → IsCurrentIn s current → b ≡ false → IsCommitNext current cs → TakesHead i s n → KeepsCheck true n current kept
    → TakesEvent i s n (player cs current b was replies) (player cs current true kept replies)
takes_version i s n cs None b was kept replies o now e next h k = absurd next
takes_version i s n [] (Some w) b was kept replies o now e next h k = absurd next
takes_version i s n (c ∷ cs) (Some w) b was kept replies o now e next h k =
    subst (λ (x : Bool). TakesEvent i s n (player (c ∷ cs) (Some w) x was replies) (player (c ∷ cs) (Some w) true kept replies)) (sym e)
    (subst (λ (d : Command). TakesEvent i s n (player (d ∷ cs) (Some w) false was replies) (player (d ∷ cs) (Some w) true kept replies)) (sym next.0) (takes_head i s n w cs was kept replies o now next.1 h k))

-- the commit was answered
takes_answer : (i : ℕ) (s n : RecordedStore) (w : OpenTransaction) (cs : List Command) (was : Option CheckedNet) (replies : List SessionReply) (reply : SessionReply) → IsOpened s.state i → w.transaction.verdict ≡ None → HasChange w.transaction.net w.transaction.staged → CommitsWith i s n w.transaction reply
    → TakesEvent i s n (player (Commit ∷ cs) (Some w) true was replies) (player cs None false None (replies ++ reply ∷ []))
takes_answer i s n w cs was replies reply o bare some h =
    let none = local-change (headed w) w.transaction.net w.transaction.staged some in
    let from = up_to_event-event (Some (headed w)) Commit cs replies none in
    let one : Advances i s n (record { current = Some (headed w); commands = Commit ∷ cs; replies = replies }) (up_to_event None cs (replies ++ reply ∷ [])) =
    Advances-commit i s n (headed w) cs replies h.verdict h.answer _ o bare refl (h.told w.graph w.shapes cs replies) h.sound h.step in
    record {
      ready = record { current = tt; held = tt; kept = tt };
      advances = subst (λ (x : SessionState). Advances i s n x (up_to_event None cs (replies ++ reply ∷ []))) (sym from) one;
      order = one_place s n (record { session = i; action = actions.Commit (record w.transaction { verdict = h.verdict }); reply = h.answer }) h.step;
    }

takes_commit : (i : ℕ) (s n : RecordedStore) (cs rest : List Command) (current : Option OpenTransaction) (w : OpenTransaction) (b : Bool) (was : Option CheckedNet) (replies : List SessionReply) (reply : SessionReply) → IsOpened s.state i → w.transaction.verdict ≡ None → current ≡ Some w → b ≡ true → ((c : Command) × (cs ≡ c ∷ rest)) → IsHeld b current cs → CommitsWith i s n w.transaction reply
    → TakesEvent i s n (player cs current b was replies) (player rest None false None (replies ++ reply ∷ []))
takes_commit i s n cs rest current w b was replies reply o bare ew eb next hold h =
    let waits : IsHeld true (Some w) (next.0 ∷ rest) = subst (λ (x : Bool). IsHeld x (Some w) (next.0 ∷ rest)) eb (subst (λ (x : Option OpenTransaction). IsHeld b x (next.0 ∷ rest)) ew (subst (λ (ds : List Command). IsHeld b current ds) next.1 hold)) in
    let done = subst (λ (d : Command). TakesEvent i s n (player (d ∷ rest) (Some w) true was replies) (player rest None false None (replies ++ reply ∷ []))) (sym waits.0) (takes_answer i s n w rest was replies reply o bare waits.1 h) in
    subst (λ (ds : List Command). TakesEvent i s n (player ds current b was replies) (player rest None false None (replies ++ reply ∷ []))) (sym next.1)
    (subst (λ (x : Option OpenTransaction). TakesEvent i s n (player (next.0 ∷ rest) x b was replies) (player rest None false None (replies ++ reply ∷ []))) (sym ew)
    (subst (λ (x : Bool). TakesEvent i s n (player (next.0 ∷ rest) (Some w) x was replies) (player rest None false None (replies ++ reply ∷ []))) (sym eb) done))

-- its transaction is one of the store
pub fits_now : (s : RecordedStore) (p v : Player) (w : OpenTransaction) → v ≡ p → MayGoOn s p → v.current ≡ Some w → FitsState w.transaction s.state
fits_now s p v w e ready ew = let now : IsCurrent s w = subst (IsCurrentIn s) (sym (ap (λ (x : Player). x.current) e) ∙ ew) ready.current in now.fits

-- it changes something or stages shapes, and its commit may hand in what is kept
pub ready_held : (s : RecordedStore) (p v : Player) (rest : List Command) (w : OpenTransaction) → v ≡ p → MayGoOn s p → p.head_taken ≡ true → ((c : Command) × (p.commands ≡ c ∷ rest)) → v.current ≡ Some w → HasChange w.transaction.net w.transaction.staged × KeepsIn s.limits s.start s.history w.transaction.net v.checked
ready_held s p v rest w e ready hold next ew =
    let ep : p.current ≡ Some w = sym (ap (λ (x : Player). x.current) e) ∙ ew in
    let kept : KeepsCheck true s (Some w) v.checked = subst (λ (o : Option CheckedNet). KeepsCheck true s (Some w) o) (sym (ap (λ (x : Player). x.checked) e)) (subst (λ (x : Option OpenTransaction). KeepsCheck true s x p.checked) ep (subst (λ (b : Bool). KeepsCheck b s p.current p.checked) hold ready.kept)) in
    let waits : IsHeld true (Some w) (next.0 ∷ rest) = subst (λ (b : Bool). IsHeld b (Some w) (next.0 ∷ rest)) hold (subst (λ (x : Option OpenTransaction). IsHeld p.head_taken x (next.0 ∷ rest)) ep (subst (λ (cs : List Command). IsHeld p.head_taken p.current cs) next.1 ready.held)) in
    (waits.1, kept)

-- a list with an item is its first one and the others
abbrev pub others : {X : Type 0} → List X → List X
others xs = take (length xs - 1) (drop 1 xs)

pub first_rest : {X : Type 0} (xs : List X) (x : X) → 1 ≤ length xs → x ≡ get_or xs 0 x → xs ≡ x ∷ others xs
first_rest [] x some is = absurd (omega (arith, some))
first_rest (y ∷ ys) x some is = ap (λ z. z ∷ ys) (sym is) ∙ ap (λ zs. x ∷ zs) (sym (take_all (suc (length ys) - 1) ys (omega arith)))

-- the same, where the fields of a player are known by an equation
pub version_taken : (i : ℕ) (s n : RecordedStore) (p v : Player) (w : OpenTransaction) (now : Option OpenTransaction) (kept : Option CheckedNet) → v ≡ p → IsOpened s.state i → MayGoOn s p → p.head_taken ≡ false → IsCommitNext p.current p.commands → TakesHead i s n → v.current ≡ Some w → now ≡ Some w → KeepsIn n.limits n.start n.history w.transaction.net kept
    → TakesEvent i s n p (player v.commands now true kept v.replies)
version_taken i s n p v w now kept e o ready free next h ew en k =
    let ep : p.current ≡ Some w = sym (ap (λ (x : Player). x.current) e) ∙ ew in
    let done = takes_version i s n p.commands p.current p.head_taken p.checked kept p.replies o ready.current free next h (subst (λ (x : Option OpenTransaction). KeepsCheck true n x kept) (sym ep) k) in
    subst (λ (x : Option OpenTransaction). TakesEvent i s n p (player v.commands x true kept v.replies)) (sym en)
    (subst (λ (x : Option OpenTransaction). TakesEvent i s n p (player v.commands x true kept v.replies)) ew
    (subst (λ (x : Player). TakesEvent i s n p (player x.commands x.current true kept x.replies)) (sym e) done))

pub commit_taken : (i : ℕ) (s n : RecordedStore) (p v : Player) (rest : List Command) (w : OpenTransaction) (now : Option OpenTransaction) (kept : Option CheckedNet) (more : List SessionReply) (reply : SessionReply) → v ≡ p → IsOpened s.state i → MayGoOn s p → p.head_taken ≡ true → ((c : Command) × (p.commands ≡ c ∷ rest)) → v.current ≡ Some w → now ≡ None → more ≡ v.replies ++ reply ∷ []
    → kept ≡ None → CommitsWith i s n w.transaction reply → TakesEvent i s n p (player rest now false kept more)
commit_taken i s n p v rest w now kept more reply e o ready hold next ew en em ek h =
    let bare = (fits_now s p v w e ready ew).verdict in
    let done = takes_commit i s n p.commands rest p.current w p.head_taken p.checked p.replies reply o bare (sym (ap (λ (x : Player). x.current) e) ∙ ew) hold next ready.held h in
    let told : p.replies ++ reply ∷ [] ≡ more = sym (em ∙ ap (λ (x : Player). x.replies ++ reply ∷ []) e) in
    subst (λ (o : Option CheckedNet). TakesEvent i s n p (player rest now false o more)) (sym ek)
    (subst (λ (x : Option OpenTransaction). TakesEvent i s n p (player rest x false None more)) (sym en) (subst (λ (ts : List SessionReply). TakesEvent i s n p (player rest None false None ts)) told done))

-- what is left once the first command was taken out
pub popped : (cs ds : List Command) → cs ≢ [] → ds ≡ drop 1 cs → (c : Command) × (cs ≡ c ∷ ds)
popped [] ds some e = absurd (some refl)
popped (c ∷ cs) ds some e = (c, ap (λ xs. c ∷ xs) (sym e))

-- the command at the front is the first one
pub front_first : (cs ds : List Command) (c d : Command) → cs ≡ d ∷ ds → c ≡ slice_index_or cs 0 c → c ≡ d
front_first cs ds c d e is = is ∙ ap (λ (xs : List Command). slice_index_or xs 0 c) e

-- the first command of a player and the others
pub next_command : (p v : Player) (c : Command) → v ≡ p → 1 ≤ length v.commands → c ≡ get_or v.commands 0 c → p.commands ≡ c ∷ others v.commands
next_command p v c e some is = sym (ap (λ (x : Player). x.commands) e) ∙ first_rest v.commands c some is

-- the item at k, and what stands before and after it
split_at : {X : Type 0} (xs : List X) (k : ℕ) (d : X) → k < length xs → (before : List X) × (rest : List X) × (xs ≡ before ++ get_or xs k d ∷ rest) × (length before ≡ k)
split_at [] k d lt = absurd (omega (arith, lt))
split_at (x ∷ xs) zero d lt = ([], xs, refl, refl)
split_at (x ∷ xs) (suc k) d lt = let h = split_at xs k d (omega (arith, lt)) in (x ∷ h.0, h.1, ap (λ ys. x ∷ ys) h.2, ap suc h.3)

all_middle : (s : RecordedStore) (before rest : List Player) (p q : Player) → AllByRecursion (MayGoOn s) (before ++ p ∷ rest) → MayGoOn s q → AllByRecursion (MayGoOn s) (before ++ q ∷ rest)
all_middle s [] rest p q a h = (h, a.1)
all_middle s (b ∷ bs) rest p q a h = (a.0, all_middle s bs rest p q a.1 h)

at_middle : (s : RecordedStore) (before rest : List Player) (p : Player) → AllByRecursion (MayGoOn s) (before ++ p ∷ rest) → MayGoOn s p
at_middle s [] rest p a = a.0
at_middle s (b ∷ bs) rest p a = at_middle s bs rest p a.1

pub ready_at : (s : RecordedStore) (ps : List Player) (k : ℕ) (p : Player) → AllByRecursion (MayGoOn s) ps → k < length ps → p ≡ get_or ps k p → MayGoOn s p
ready_at s ps k p a lt is =
    let h = split_at ps k p lt in
    subst (MayGoOn s) (sym is) (at_middle s h.0 h.1 (get_or ps k p) (subst (AllByRecursion (MayGoOn s)) h.2 a))

-- a player among the others took its next event
plays_middle : (i : ℕ) (s n : RecordedStore) (before rest : List Player) (p q : Player) → i ≡ length before + 1 → AllByRecursion (MayGoOn s) (before ++ p ∷ rest) → TakesEvent i s n p q → Plays (i ∷ []) s n (before ++ p ∷ rest) (before ++ q ∷ rest)
plays_middle i s n before rest p q at ready h =
    let front = map state_of before in
    let back = map state_of rest in
    let here : i ≡ length front + 1 = let e = length-map before state_of in omega (arith, e, at) in
    let one : order_of h.advances.events ≡ i ∷ [] = places i s n _ _ h.advances (i ∷ []) h.order in
    let run : RunsInOrder s.limits (world s.state (front ++ state_of p ∷ back)) (i ∷ []) None (world n.state (front ++ state_of q ∷ back)) =
    subst (λ (is : List ℕ). RunsInOrder s.limits (world s.state (front ++ state_of p ∷ back)) is None (world n.state (front ++ state_of q ∷ back))) one (h.advances.runs front back here) in
    let grows : More s.state n.state = more_run s.limits (world s.state (front ++ state_of p ∷ back)) (world n.state (front ++ state_of q ∷ back)) (i ∷ []) run in
    record {
      ready = all_middle n before rest p q (all_later s n (before ++ p ∷ rest) (record { more = grows; limits = h.advances.limits; start = h.advances.start; events = h.advances.events; history = h.advances.history }) ready) h.ready;
      count = let a : length (before ++ q ∷ rest) ≡ length before + suc (length rest) = length-append before (q ∷ rest) in
          let b : length (before ++ p ∷ rest) ≡ length before + suc (length rest) = length-append before (p ∷ rest) in a ∙ sym b;
      limits = h.advances.limits;
      history = h.order;
      runs = subst (λ (xs : List SessionState). RunsInOrder s.limits (world s.state xs) (i ∷ []) None (world n.state (map state_of (before ++ q ∷ rest)))) (sym (map-append state_of before (p ∷ rest)))
          (subst (λ (xs : List SessionState). RunsInOrder s.limits (world s.state (front ++ state_of p ∷ back)) (i ∷ []) None (world n.state xs)) (sym (map-append state_of before (q ∷ rest))) run);
    }

plays_event : (i : ℕ) (s n : RecordedStore) (ps : List Player) (p q : Player) → AreReady s ps → 1 ≤ i → i ≤ s.state.opened → p ≡ get_or ps (i - 1) p → TakesEvent i s n p q → Plays (i ∷ []) s n ps (set ps (i - 1) q)
plays_event i s n ps p q a one le is h =
    let opened = a.opened in
    let lt : i - 1 < length ps = omega (arith, one, le, opened) in
    let f = split_at ps (i - 1) p lt in
    let ps_is : ps ≡ f.0 ++ p ∷ f.1 = f.2 ∙ ap (λ x. f.0 ++ x ∷ f.1) (sym is) in
    let count = f.3 in
    let at : i ≡ length f.0 + 1 = omega (arith, one, count) in
    let done = plays_middle i s n f.0 f.1 p q at (subst (AllByRecursion (MayGoOn s)) ps_is a.ready) h in
    let put : set ps (i - 1) q ≡ f.0 ++ q ∷ f.1 = ap (λ xs. set xs (i - 1) q) ps_is ∙ (ap (λ k. set (f.0 ++ p ∷ f.1) k q) (sym count) ∙ set-middle f.0 f.1 p q) in
    subst (λ (xs : List Player). Plays (i ∷ []) s n xs (set ps (i - 1) q)) (sym ps_is) (subst (λ (xs : List Player). Plays (i ∷ []) s n (f.0 ++ p ∷ f.1) xs) (sym put) done)

get-map : (ps : List Player) (k : ℕ) (p : Player) (d : SessionState) → k < length ps → get_or (map state_of ps) k d ≡ state_of (get_or ps k p)
get-map [] k p d lt = absurd (omega (arith, lt))
get-map (x ∷ xs) zero p d lt = refl
get-map (x ∷ xs) (suc k) p d lt = get-map xs k p d (omega (arith, lt))

-- a session without an event left may not have a place
no_event_left : (i : ℕ) (s : RecordedStore) (ps : List Player) (p : Player) → AreReady s ps → 1 ≤ i → i ≤ s.state.opened → p ≡ get_or ps (i - 1) p → (state_of p).commands ≡ [] → MayTake (world s.state (states_of ps)) i → ⊥
no_event_left i s ps p a one le is none m =
    let opened = a.opened in
    let lt : i - 1 < length ps = omega (arith, one, le, opened) in
    let no : nat_eq i (s.state.opened + 1) ≡ false = grind (arith, nat_tests, le) in
    let there = subst (λ (b : Bool). MatchBool b (i ≤ length (states_of ps)) ((1 ≤ i) × (i ≤ s.state.opened) × ((session_at (world s.state (states_of ps)) i).commands ≢ []))) no m in
    there.2 (ap (λ (x : SessionState). x.commands) (get-map ps (i - 1) p no_session lt) ∙ (ap (λ (x : Player). (state_of x).commands) (sym is) ∙ none))

pub place_of_event : (i : ℕ) (s n : RecordedStore) (ps : List Player) (p q : Player) (r : Result Bool AllocError) → AreReady s ps → (i ≡ 0 → ⊥) → i ≤ s.state.opened → p ≡ get_or ps (i - 1) p
    → IfOk r (λ taken. MatchBool taken (TakesEvent i s n p q) ((state_of p).commands ≡ []))
    → IfOk r (λ taken. MatchBool taken (Plays (i ∷ []) s n ps (set ps (i - 1) q) × (n.state.opened ≤ length (set ps (i - 1) q))) (MayTake (world s.state (states_of ps)) i → ⊥))
place_of_event i s n ps p q (Err e) a nz le is h = tt
place_of_event i s n ps p q (Ok true) a nz le is h =
    let one : 1 ≤ i = omega (arith, nz) in
    let done = plays_event i s n ps p q a one le is h in
    let same = h.advances.opened in
    let opened = a.opened in
    let count = done.count in
    (done, omega (arith, same, opened, count))
place_of_event i s n ps p q (Ok false) a nz le is h = no_event_left i s ps p a (omega (arith, nz)) le is h

opened_by : (s t : State) (i : ℕ) (b : Bool) → MatchBool b (OpensNext s i (Session i) t) (OpensNothing s i (Session i) t) → i ≡ s.opened + 1
opened_by s t i true h = h.0
opened_by s t i false h = cc

opened_next : (s n : RecordedStore) (i : ℕ) → TakesStep s n (record { session = i; action = actions.Open; reply = Session i }) → i ≡ s.state.opened + 1
opened_next s n i h = opened_by s.state n.state i (nat_lt s.state.opened 64) h.step

-- the next session was opened
pub place_of_opening : (i k o : ℕ) (s n : RecordedStore) (ps : List Player) → AreReady s ps → k ≡ o + 1 → o ≡ s.state.opened → k ≤ length ps → TakesStep s n (record { session = i; action = actions.Open; reply = Session i }) → (Plays (k ∷ []) s n ps ps × (n.state.opened ≤ length ps)) × (k ≡ n.state.opened)
place_of_opening i k o s n ps a ek eo le h =
    let lt : s.state.opened < length ps = omega (arith, ek, eo, le) in
    let sessions = length-map ps state_of in
    let run = OpensNext-runs s n i (states_of ps) h (omega (arith, lt, sessions)) in
    let up = run.1 in
    let is : i ≡ k = let f = opened_next s n i h in omega (arith, f, ek, eo) in (
      (
        record {
          ready = all_later s n ps (record { more = more_step s.limits s.state n.state i actions.Open (Session i) h.step; limits = h.limits; start = h.start; events = _; history = h.history }) a.ready;
          count = refl;
          limits = h.limits;
          history = one_place s n (record { session = i; action = actions.Open; reply = Session i }) h ∙ ap (λ (x : ℕ). order_of s.history ++ x ∷ []) is;
          runs = subst (λ (x : ℕ). RunsInOrder s.limits (world s.state (states_of ps)) (x ∷ []) None (world n.state (states_of ps))) is run.0;
        },
        omega (arith, up, lt),
      ),
      omega (arith, up, ek, eo),
    )

pub plays_none : (s : RecordedStore) (ps : List Player) → AreReady s ps → PlaysAll [] s s ps ps
plays_none s ps a = record {
  order = [];
  taken = refl;
  plays = record { ready = a.ready; count = refl; limits = refl; history = sym (append-nil (order_of s.history)); runs = refl };
  opened = a.opened;
}

plays_then : (a b : List ℕ) (s m n : RecordedStore) (ps qs rs : List Player) → Plays a s m ps qs → Plays b m n qs rs → Plays (a ++ b) s n ps rs
plays_then a b s m n ps qs rs g h = record {
  ready = h.ready;
  count = h.count ∙ g.count;
  limits = h.limits ∙ g.limits;
  history = h.history ∙ (ap (λ is. is ++ b) g.history ∙ append_assoc (order_of s.history) a b);
  runs = RunsInOrder-append s.limits (world s.state (states_of ps)) (world m.state (states_of qs)) (world n.state (states_of rs)) a b g.runs
      (subst (λ (l : Limits). RunsInOrder l (world m.state (states_of qs)) b None (world n.state (states_of rs))) g.limits h.runs);
}

take-next : {X : Type 0} (xs : List X) (k : ℕ) (x : X) → k < length xs → x ≡ get_or xs k x → take (k + 1) xs ≡ take k xs ++ x ∷ []
take-next xs k x lt is = rw add-one (take-suc xs k x lt ∙ ap (λ y. take k xs ++ y ∷ []) (sym is))

pub plays_next : (places : List (Option ℕ)) (k i : ℕ) (s m n : RecordedStore) (ps qs rs : List Player) → PlaysAll (take k places) s m ps qs → k < length places → Some i ≡ get_or places k (Some i) → Plays (i ∷ []) m n qs rs → n.state.opened ≤ length rs → PlaysAll (take (k + 1) places) s n ps rs
plays_next places k i s m n ps qs rs g lt is h le = record {
  order = g.order ++ i ∷ [];
  taken = take-next places k (Some i) lt is ∙ (ap (λ os. os ++ Some i ∷ []) g.taken ∙ sym (map-append Some g.order (i ∷ [])));
  plays = plays_then g.order (i ∷ []) s m n ps qs rs g.plays h;
  opened = le;
}

length-take-le : {X : Type 0} (xs : List X) (k : ℕ) → k ≤ length xs → length (take k xs) ≡ k
length-take-le xs zero le = refl
length-take-le [] (suc k) le = absurd (omega (arith, le))
length-take-le (x ∷ xs) (suc k) le = ap suc (length-take-le xs k (omega (arith, le)))

-- the next place is a bad one
pub stops_next : (places : List (Option ℕ)) (k : ℕ) (place : Option ℕ) (s m : RecordedStore) (ps qs : List Player) → PlaysAll (take k places) s m ps qs → k < length places → place ≡ get_or places k place → IsBadPlace (world m.state (states_of qs)) place → StopsAt s ps places (k + 1)
stops_next places k place s m ps qs g lt is bad =
    let cut : places ≡ take k places ++ drop k places = sym (take-append-drop k places) in
    let next : drop k places ≡ place ∷ drop (suc k) places = drop-cons places k place lt ∙ ap (λ z. z ∷ drop (suc k) places) (sym is) in
    let a = length-take-le places k (omega (arith, lt)) in
    let b = ap length g.taken ∙ length-map g.order Some in
    (g.order, place ∷ drop (suc k) places, world m.state (states_of qs), cut ∙ (ap (λ xs. xs ++ drop k places) g.taken ∙ ap (λ xs. map Some g.order ++ xs) next), g.plays.runs, bad, omega (arith, a, b))

pub ready_after : (places : List (Option ℕ)) (s m : RecordedStore) (ps qs : List Player) → AreReady s ps → PlaysAll places s m ps qs → AreReady m qs
ready_after places s m ps qs a g =
    let few = a.few in
    let count = g.plays.count in
    record { ready = g.plays.ready; few = omega (arith, few, count); opened = g.opened }

-- before the first place
states_start : (files : List (List Command)) → states_of (map new_player files) ≡ map (λ cs. up_to_event None cs []) files
states_start [] = refl
states_start (cs ∷ files) = ap (λ xs. up_to_event None cs [] ∷ xs) (states_start files)

ready_start : (s : RecordedStore) (files : List (List Command)) → AllByRecursion (MayGoOn s) (map new_player files)
ready_start s [] = tt
ready_start s (cs ∷ files) = (record { current = tt; held = tt; kept = tt }, ready_start s files)

abbrev opening : Limits → RecordedStore
opening l = record { limits = l; start = empty_store; state = empty_store; history = [] }

pub are_ready_start : (l : Limits) (s : RecordedStore) (ps : List Player) (files : List (List Command)) → s ≡ opening l → ps ≡ map new_player files → length files ≤ 64 → AreReady s ps
are_ready_start l s ps files es ep few =
    subst (λ (x : RecordedStore). AreReady x ps) (sym es) (subst (λ (x : List Player). AreReady (opening l) x) (sym ep)
    (let count = length-map files new_player in record { ready = ready_start (opening l) files; few = omega (arith, count, few); opened = omega arith }))

runs_start : (l : Limits) (s : RecordedStore) (ps : List Player) (files : List (List Command)) (order : List ℕ) (m : World) → s ≡ opening l → ps ≡ map new_player files → RunsInOrder s.limits (world s.state (states_of ps)) order None m → RunsInOrder l (start empty_store files) order None m
runs_start l s ps files order m es ep h =
    subst (λ (xs : List SessionState). RunsInOrder l (world empty_store xs) order None m) (ap states_of ep ∙ states_start files) (subst (λ (x : RecordedStore). RunsInOrder x.limits (world x.state (states_of ps)) order None m) es h)

pub stops_start : (l : Limits) (s : RecordedStore) (ps : List Player) (files : List (List Command)) (places : List (Option ℕ)) (fault : HistoryFault) → s ≡ opening l → ps ≡ map new_player files → RefusesFrom s ps places fault → RefusesHistory files l empty_store places fault
stops_start l s ps files places (Place k) es ep h = (h.0, h.1, h.2, h.3, runs_start l s ps files h.0 h.2 es ep h.4, h.5, h.6)
stops_start l s ps files places Memory es ep h = tt

-- the places end before the sessions do
ends : (l : Limits) (s m : RecordedStore) (ps qs : List Player) (files : List (List Command)) (places : List (Option ℕ)) → s ≡ opening l → ps ≡ map new_player files → PlaysAll places s m ps qs → (IsComplete (world m.state (states_of qs)) → ⊥) → IsFirstBad files l empty_store places (length places + 1)
ends l s m ps qs files places es ep g more =
    let count = ap length g.taken ∙ length-map g.order Some in
    (g.order, [], world m.state (states_of qs), g.taken ∙ sym (append-nil (map Some g.order)), runs_start l s ps files g.order (world m.state (states_of qs)) es ep g.plays.runs, more, omega (arith, count))

pub ends_unopened : (l : Limits) (s m : RecordedStore) (ps qs : List Player) (files : List (List Command)) (places : List (Option ℕ)) (o : ℕ) → s ≡ opening l → ps ≡ map new_player files → PlaysAll places s m ps qs → o ≡ m.state.opened → o < length files → IsFirstBad files l empty_store places (length places + 1)
ends_unopened l s m ps qs files places o es ep g eo lt =
    ends l s m ps qs files places es ep g (λ c.
    let a = c.opened in
    let b = length-map qs state_of in
    let d = g.plays.count in
    let e = ap length ep ∙ length-map files new_player in
    absurd (omega (arith, eo, lt, a, b, d, e)))

pub ends_unfinished : (l : Limits) (s m : RecordedStore) (ps qs : List Player) (files : List (List Command)) (places : List (Option ℕ)) → s ≡ opening l → ps ≡ map new_player files → PlaysAll places s m ps qs → (AllByRecursion (λ x. x.commands ≡ []) (states_of qs) → ⊥) → IsFirstBad files l empty_store places (length places + 1)
ends_unfinished l s m ps qs files places es ep g more = ends l s m ps qs files places es ep g (λ c. more c.left)

pub all_opened : (l : Limits) (s m : RecordedStore) (ps qs : List Player) (files : List (List Command)) (places : List (Option ℕ)) (o : ℕ) → ps ≡ map new_player files → PlaysAll places s m ps qs → o ≡ m.state.opened → length files ≤ o → m.state.opened ≡ length qs
all_opened l s m ps qs files places o ep g eo le =
    let d = g.plays.count in
    let e = ap length ep ∙ length-map files new_player in
    let f = g.opened in
    omega (arith, eo, le, d, e, f)

pub replayed : (l : Limits) (s m n : RecordedStore) (ps qs : List Player) (files : List (List Command)) (places : List (Option ℕ)) (all : List (List SessionReply)) (order : List ℕ) → s ≡ opening l → ps ≡ map new_player files → PlaysAll places s m ps qs → m.state.opened ≡ length qs → EndsAll (states_of qs) all → n ≡ m → order ≡ map (λ (e : Event). e.session) n.history
    → IsReplayed files l empty_store places order all
replayed l s m n ps qs files places all order es ep g opened h en eo =
    let is : order ≡ g.order = eo ∙ (ap (λ (x : RecordedStore). order_of x.history) en ∙ (g.plays.history ∙ ap (λ (x : RecordedStore). order_of x.history ++ g.order) es)) in
    subst (λ (os : List ℕ). IsReplayed files l empty_store places os all) (sym is) (
      g.taken,
      record {
        last = world m.state (states_of qs);
        runs = runs_start l s ps files g.order (world m.state (states_of qs)) es ep g.plays.runs;
        complete = record { opened = opened ∙ sym (length-map qs state_of); left = h.0 };
        replies = h.1;
      },
    )

-- one more session without an event left
ends_next : (ps : List Player) (p : Player) (all : List (List SessionReply)) (replies : List SessionReply) → EndsAll (states_of ps) all → Finishes p (Some replies) → EndsAll (states_of (ps ++ p ∷ [])) (all ++ replies ∷ [])
ends_next ps p all replies h f =
    let e : states_of (ps ++ p ∷ []) ≡ states_of ps ++ state_of p ∷ [] = map-append state_of ps (p ∷ []) in
    subst (λ (xs : List SessionState). EndsAll xs (all ++ replies ∷ [])) (sym e)
    (all-append (states_of ps) (state_of p) h.0 f.0, ap (λ xs. xs ++ replies ∷ []) h.1 ∙ (ap (λ r. map (λ (x : SessionState). x.replies) (states_of ps) ++ r ∷ []) f.1 ∙ sym (map-append (λ (x : SessionState). x.replies) (states_of ps) (state_of p ∷ []))))

left_middle : (before rest : List Player) (p : Player) → ((state_of p).commands ≡ [] → ⊥) → AllByRecursion (λ s. s.commands ≡ []) (states_of (before ++ p ∷ rest)) → ⊥
left_middle [] rest p more a = more a.0
left_middle (b ∷ bs) rest p more a = left_middle bs rest p more a.1

-- a session with an event left
pub never_all : (before rest ps : List Player) (p : Player) → before ++ p ∷ rest ≡ ps → ((state_of p).commands ≡ [] → ⊥) → AllByRecursion (λ s. s.commands ≡ []) (states_of ps) → ⊥
never_all before rest ps p e more a = left_middle before rest p more (subst (λ (xs : List Player). AllByRecursion (λ s. s.commands ≡ []) (states_of xs)) (sym e) a)

pub at_place : {X : Type 0} (xs : List X) (k : ℕ) (d x : X) → k < length xs → get_or xs k d ≡ x → x ≡ get_or xs k x
at_place [] k d x lt e = absurd (omega (arith, lt))
at_place (y ∷ ys) zero d x lt e = sym e
at_place (y ∷ ys) (suc k) d x lt e = at_place ys k d x (omega (arith, lt)) e

-- a vector after its items were written as a slice
pub written : {X : Type 0} (xs ys : List X) (n : ℕ) → length ys ≡ length xs → length xs ≤ n → take n (ys ++ drop (length ys) xs) ≡ ys
written xs ys n e le =
    let none : drop (length ys) xs ≡ [] = drop_all (length ys) xs (omega (arith, e)) in
    ap (λ zs. take n (ys ++ zs)) none ∙ (ap (take n) (append-nil ys) ∙ take_all n ys (omega (arith, e, le)))

pub same_players : (items now new : List Player) (n : ℕ) → now ≡ items → length now ≡ n → length new ≡ length now → take n (new ++ drop (length new) items) ≡ new
same_players items now new n e en count = let same = ap length e in written items new n (omega (arith, count, same)) (omega (arith, en, same))
