-- Sessions that advance, one after another.
use Rattle.std.proofs.Common.{◌≡◌, ℕ, ◌+◌, ◌<◌, ◌≤◌, suc, Bool, true, false, nat_eq, nat_lt, List, [], ◌∷◌, ◌++◌, length, map, get_or, Option, Some, None, refl, sym, ap, ◌∙◌, subst, arith, append_assoc, drop, add-one, drop-cons, length-append}
use Rattle.std.proofs.lemmas.List.{map-append, append-nil, length-map}
use Rattle.std.specs.Prelude.{MatchBool}
use Rattle.std.specs.List.{AllByRecursion}
use Rattle.std.proofs.lemmas.Bool.Decides.{nat_tests}
use Rattle.store_model.specs.declared.event.Limits.{Limits}
use Rattle.store_model.specs.declared.event.Event.{Event}
use Rattle.store_model.specs.declared.event.Action.{Action}
use Rattle.store_model.specs.declared.event.Action.TheVariants.{Open}
use Rattle.store_model.specs.declared.event.Action.TheVariants as actions
use Rattle.store_model.specs.declared.commit.Transaction.{Transaction}
use Rattle.store_model.specs.declared.commit.Verdict.{Verdict}
use Rattle.store_model.specs.declared.event.Reply.{Reply}
use Rattle.store_model.specs.declared.event.Reply.TheVariants.{Session}
use Rattle.session_model.specs.declared.command.Command.{Command}
use Rattle.session_model.specs.declared.command.Command.TheVariants.{Commit}
use Rattle.session_model.specs.declared.reply.SessionReply.{SessionReply}
use Rattle.store_model.specs.Logs.{is_fault}
use Rattle.store_model.specs.Store.{State, RecordedStore, StepOf, empty_store, OpensNext, OpensNothing, TakesStep, IsOpened}
use Rattle.session_laws.specs.Following.{unaided}
use Rattle.session_laws.proofs.Aside.{goes_aside}
use Rattle.session_model.specs.Sessions.{OpenTransaction, SessionState, World, action_of, after_reply, answers, commit_action, local_answer, up_to_event, GoesOn, session_at, world, RunsOpening, RunsEvent, RunsPlace, RunsInOrder, start, HasReplies}
use Rattle.session_player.specs.Progress.{Advances, OpensSessions, HasRun}
use Rattle.session_model.proofs.Walking.{get-middle, RunsInOrder-append, up_to_event-local, turn, opened_same, never_open}

-- a session that rests
pub Advances-none : (i : ℕ) (s : RecordedStore) (p : SessionState) → Advances i s s p p
Advances-none i s p = record { events = []; history = sym (append-nil s.history); limits = refl; start = refl; opened = refl; runs = λ before rest e. refl }

pub Advances-then : (i : ℕ) (a b c : RecordedStore) (p q r : SessionState) → Advances i a b p q → Advances i b c q r → Advances i a c p r
Advances-then i a b c p q r g h = record {
  events = g.events ++ h.events;
  history = h.history ∙ (ap (λ es. es ++ h.events) g.history ∙ append_assoc a.history g.events h.events);
  limits = h.limits ∙ g.limits;
  start = h.start ∙ g.start;
  opened = h.opened ∙ g.opened;
  runs = λ before rest e.
      subst (λ (ns : List ℕ). RunsInOrder a.limits (world a.state (before ++ p ∷ rest)) ns None (world c.state (before ++ r ∷ rest))) (sym (map-append (λ (x : Event). x.session) g.events h.events))
      (RunsInOrder-append a.limits (world a.state (before ++ p ∷ rest)) (world b.state (before ++ q ∷ rest)) (world c.state (before ++ r ∷ rest)) (map (λ (x : Event). x.session) g.events) (map (λ (x : Event). x.session) h.events)
      (g.runs before rest e) (subst (λ (l : Limits). RunsInOrder l (world b.state (before ++ q ∷ rest)) (map (λ (x : Event). x.session) h.events) None (world c.state (before ++ r ∷ rest))) g.limits (h.runs before rest e)));
}

pub Advances-local : (i : ℕ) (s : RecordedStore) (w v : Option OpenTransaction) (c : Command) (cs : List Command) (replies : List SessionReply) (t : SessionReply) → local_answer w c ≡ answers t v → Advances i s s (up_to_event w (c ∷ cs) replies) (up_to_event v cs (replies ++ t ∷ []))
Advances-local i s w v c cs replies t e = subst (λ (q : SessionState). Advances i s s (up_to_event w (c ∷ cs) replies) q) (up_to_event-local w v c cs replies t e) (Advances-none i s (up_to_event w (c ∷ cs) replies))

-- the store's event may stand there otherwise than the session's command has it
Advances-as : (i : ℕ) (s n : RecordedStore) (w : Option OpenTransaction) (c : Command) (cs : List Command) (replies : List SessionReply) (a b : Action) (r u : Reply) (q : SessionState) → IsOpened s.state i → GoesOn s.state w c cs replies a r q → StepOf s.limits s.state i a r n.state
    → is_fault r ≡ false → TakesStep s n (record { session = i; action = b; reply = u }) → Advances i s n (record { current = w; commands = c ∷ cs; replies = replies }) q
Advances-as i s n w c cs replies a b r u q g on h sound t = record {
  events = record { session = i; action = b; reply = u } ∷ [];
  history = t.history;
  limits = t.limits;
  start = t.start;
  opened = opened_same s.limits s.state n.state i a r (never_open w c a on.event) h;
  runs = λ before rest e. (
    world n.state (before ++ q ∷ rest),
    subst (λ (fails : Bool). RunsPlace s.limits (world s.state (before ++ record { current = w; commands = c ∷ cs; replies = replies } ∷ rest)) i fails (world n.state (before ++ q ∷ rest))) sound (turn s.limits s.state n.state i w c cs replies a r q before rest g e on h),
    refl,
  );
}

pub Advances-event : (i : ℕ) (s n : RecordedStore) (w : Option OpenTransaction) (c : Command) (cs : List Command) (replies : List SessionReply) (a : Action) (r : Reply) (q : SessionState) → IsOpened s.state i → GoesOn s.state w c cs replies a r q → is_fault r ≡ false → TakesStep s n (record { session = i; action = a; reply = r })
    → Advances i s n (record { current = w; commands = c ∷ cs; replies = replies }) q
Advances-event i s n w c cs replies a r q g on sound t = Advances-as i s n w c cs replies a a r r q g on t.step sound t

-- a commit, whatever verdict it hands in
pub Advances-commit : (i : ℕ) (s n : RecordedStore) (w : OpenTransaction) (cs : List Command) (replies : List SessionReply) (v : Option Verdict) (r : Reply) (q : SessionState) → IsOpened s.state i → w.transaction.verdict ≡ None → w.head_taken ≡ true → after_reply s.state (Some w) Commit cs replies r ≡ Some q
    → is_fault r ≡ false → TakesStep s n (record { session = i; action = actions.Commit (record w.transaction { verdict = v }); reply = r }) → Advances i s n (record { current = Some w; commands = Commit ∷ cs; replies = replies }) q
Advances-commit i s n w cs replies v r q g none held next sound t =
    let a : Action = actions.Commit (record w.transaction { verdict = v }) in
    let bare : record w.transaction { verdict = None } ≡ w.transaction = λ j. record w.transaction { verdict = sym none j } in
    let event : action_of (Some w) Commit ≡ Some (unaided a) = ap (λ b. Some (commit_action b w.transaction)) held ∙ ap (λ (x : Transaction). Some (actions.Commit x)) (sym bare) in
    let x = goes_aside s.limits s.state n.state i a r (Some w) Commit cs replies q t.step (record { event = event; next = next }) in
    Advances-as i s n (Some w) Commit cs replies (unaided a) a x.0 r q g x.1 x.2 (x.3 ∙ sound) t

opened : (s t : State) (i : ℕ) (b : Bool) → MatchBool b (OpensNext s i (Session i) t) (OpensNothing s i (Session i) t) → (i ≡ s.opened + 1) × (t.opened ≡ s.opened + 1)
opened s t i true h = (h.0, ap (λ (x : State). x.opened) h.1.1)
opened s t i false h = cc

-- the next opening
pub OpensNext-runs : (s n : RecordedStore) (i : ℕ) (ps : List SessionState) → TakesStep s n (record { session = i; action = Open; reply = Session i }) → s.state.opened < length ps → (RunsInOrder s.limits (world s.state ps) (i ∷ []) None (world n.state ps)) × (n.state.opened ≡ s.state.opened + 1)
OpensNext-runs s n i ps a lt =
    let f = opened s.state n.state i (nat_lt s.state.opened 64) a.step in
    let yes : nat_eq i (s.state.opened + 1) ≡ true = grind (arith, nat_tests, f.0) in
    let le : i ≤ length ps = omega (arith, f.0) in
    let m : World = world s.state ps in
    ((world n.state ps, subst (λ (b : Bool). MatchBool b (RunsOpening s.limits m i false (world n.state ps)) (RunsEvent s.limits m i false (session_at m i).current (session_at m i).commands (session_at m i).replies (world n.state ps))) (sym yes) (le, (Session i, n.state, a.step, refl, refl)), refl), f.1)

pub OpensSessions-none : (s : RecordedStore) → OpensSessions s s 0
OpensSessions-none s = record { events = []; history = sym (append-nil s.history); limits = refl; opened = omega arith; runs = λ ps h. refl }

pub OpensSessions-next : (s m n : RecordedStore) (k i : ℕ) → OpensSessions s m k → TakesStep m n (record { session = i; action = Open; reply = Session i }) → OpensSessions s n (k + 1)
OpensSessions-next s m n k i o a =
    let f = opened m.state n.state i (nat_lt m.state.opened 64) a.step in
    record {
      events = o.events ++ record { session = i; action = Open; reply = Session i } ∷ [];
      history = a.history ∙ (ap (λ es. es ++ record { session = i; action = Open; reply = Session i } ∷ []) o.history ∙ append_assoc s.history o.events (record { session = i; action = Open; reply = Session i } ∷ []));
      limits = a.limits ∙ o.limits;
      opened = omega (arith, f.1, o.opened);
      runs = λ ps h.
          let lt : m.state.opened < length ps = omega (arith, f.1, h) in
          let le : m.state.opened ≤ length ps = omega (arith, lt) in
          let last = subst (λ (l : Limits). RunsInOrder l (world m.state ps) (i ∷ []) None (world n.state ps)) o.limits (OpensNext-runs m n i ps a lt).0 in
          subst (λ (ns : List ℕ). RunsInOrder s.limits (world s.state ps) ns None (world n.state ps)) (sym (map-append (λ (x : Event). x.session) o.events (record { session = i; action = Open; reply = Session i } ∷ [])))
          (RunsInOrder-append s.limits (world s.state ps) (world m.state ps) (world n.state ps) (map (λ (x : Event). x.session) o.events) (i ∷ []) (o.runs ps le) last);
    }

pub all-append : (ps : List SessionState) (q : SessionState) → AllByRecursion (λ p. p.commands ≡ []) ps → q.commands ≡ [] → AllByRecursion (λ p. p.commands ≡ []) (ps ++ q ∷ [])
all-append [] q a e = (e, tt)
all-append (p ∷ ps) q a e = (a.0, all-append ps q a.1 e)

drop-length : {X : Type 0} (xs : List X) → drop (length xs) xs ≡ []
drop-length [] = refl
drop-length (x ∷ xs) = drop-length xs

-- the next file, from its first command to its last
pub HasRun-next : (files : List (List Command)) (l : Limits) (b : State) (c n : RecordedStore) (k i : ℕ) (cs : List Command) (all : List (List SessionReply)) (w : Option OpenTransaction) (replies : List SessionReply) → HasRun files l b c k all → i ≡ k + 1 → k < length files → cs ≡ get_or files k cs
    → Advances i c n (up_to_event None cs []) (record { current = w; commands = []; replies = replies }) → HasRun files l b n (k + 1) (all ++ replies ∷ [])
HasRun-next files l b c n k i cs all w replies s at lt is g =
    let q : SessionState = record { current = w; commands = []; replies = replies } in
    let rest : List SessionState = map (λ ds. up_to_event None ds []) (drop (k + 1) files) in
    let e : drop k files ≡ cs ∷ drop (k + 1) files = rw add-one (drop-cons files k cs lt ∙ ap (λ z. z ∷ drop (suc k) files) (sym is)) in
    let begun : RunsInOrder l (start b files) (map (λ x. x.session) c.history) None (world c.state (s.over ++ up_to_event None cs [] ∷ rest)) =
    subst (λ (ds : List (List Command)). RunsInOrder l (start b files) (map (λ x. x.session) c.history) None (world c.state (s.over ++ map (λ es. up_to_event None es []) ds))) e s.runs in
    let here : i ≡ length s.over + 1 = omega (arith, at, s.count) in
    let on : RunsInOrder l (world c.state (s.over ++ up_to_event None cs [] ∷ rest)) (map (λ x. x.session) g.events) None (world n.state (s.over ++ q ∷ rest)) =
    subst (λ (m : Limits). RunsInOrder m (world c.state (s.over ++ up_to_event None cs [] ∷ rest)) (map (λ x. x.session) g.events) None (world n.state (s.over ++ q ∷ rest))) s.limits (g.runs s.over rest here) in
    let both = RunsInOrder-append l (start b files) (world c.state (s.over ++ up_to_event None cs [] ∷ rest)) (world n.state (s.over ++ q ∷ rest)) (map (λ x. x.session) c.history) (map (λ x. x.session) g.events) begun on in
    let names : map (λ x. x.session) c.history ++ map (λ x. x.session) g.events ≡ map (λ (x : Event). x.session) n.history =
    sym (map-append (λ (x : Event). x.session) c.history g.events) ∙ sym (ap (map (λ (x : Event). x.session)) g.history) in
    record {
      over = s.over ++ q ∷ [];
      count = let h : length (s.over ++ q ∷ []) ≡ length s.over + 1 = simp length-append in omega (arith, h, s.count);
      left = all-append s.over q s.left refl;
      replies = ap (λ ts. ts ++ replies ∷ []) s.replies ∙ sym (map-append (λ (p : SessionState). p.replies) s.over (q ∷ []));
      limits = g.limits ∙ s.limits;
      opened = g.opened ∙ s.opened;
      runs = subst (λ (ps : List SessionState). RunsInOrder l (start b files) (map (λ x. x.session) n.history) None (world n.state ps)) (sym (append_assoc s.over (q ∷ []) rest))
          (subst (λ (ns : List ℕ). RunsInOrder l (start b files) ns None (world n.state (s.over ++ q ∷ rest))) names both);
    }

-- all sessions were opened, none was played
pub HasRun-start : (files : List (List Command)) (l : Limits) (o c : RecordedStore) (n : ℕ) → o ≡ record { limits = l; start = empty_store; state = empty_store; history = [] } → n ≡ length files → OpensSessions o c n → HasRun files l empty_store c 0 []
HasRun-start files l o c n e en h =
    let g = subst (λ (x : RecordedStore). OpensSessions x c n) e h in
    let opened : c.state.opened ≡ length files = omega (arith, g.opened, en) in
    let first : List SessionState = map (λ cs. up_to_event None cs []) files in
    let count : length first ≡ length files = length-map files (λ cs. up_to_event None cs []) in
    record {
      over = [];
      count = refl;
      left = tt;
      replies = refl;
      limits = g.limits;
      opened = opened;
      runs = subst (λ (es : List Event). RunsInOrder l (start empty_store files) (map (λ x. x.session) es) None (world c.state first)) (sym g.history) (g.runs first (omega (arith, opened, count)));
    }

-- all files were played
pub HasReplies-HasRun : (files : List (List Command)) (l : Limits) (b : State) (c : RecordedStore) (all : List (List SessionReply)) → HasRun files l b c (length files) all → HasReplies files l b (map (λ e. e.session) c.history) None all
HasReplies-HasRun files l b c all s =
    let none : map (λ ds. up_to_event None ds []) (drop (length files) files) ≡ [] = ap (map (λ ds. up_to_event None ds [])) (drop-length files) in
    let ps : s.over ++ map (λ ds. up_to_event None ds []) (drop (length files) files) ≡ s.over = ap (λ x. s.over ++ x) none ∙ append-nil s.over in
    record {
      last = world c.state s.over;
      runs = subst (λ (x : List SessionState). RunsInOrder l (start b files) (map (λ e. e.session) c.history) None (world c.state x)) ps s.runs;
      complete = record { opened = s.opened ∙ sym s.count; left = s.left };
      replies = s.replies;
    }

-- the next file of a run, and the place it has
pub placed_next : (done rest files : List (List Command)) (cs : List Command) → done ++ cs ∷ rest ≡ files → (length done < length files) × (cs ≡ get_or files (length done) cs) × ((done ++ cs ∷ []) ++ rest ≡ files)
placed_next done rest files cs e =
    (subst (λ (fs : List (List Command)). length done < length fs) e (omega (arith, length-append done (cs ∷ rest))), subst (λ (fs : List (List Command)). cs ≡ get_or fs (length done) cs) e (sym (get-middle done rest cs cs)), append_assoc done (cs ∷ []) rest ∙ e)

pub more_yielded : (done : List (List Command)) (cs : List Command) → length (done ++ cs ∷ []) ≡ length done + 1
more_yielded done cs = length-append done (cs ∷ [])

-- no file is left
pub at_end : (l : Limits) (b : State) (n : RecordedStore) (all : List (List SessionReply)) (done left files : List (List Command)) → left ≡ [] → done ++ left ≡ files → HasRun files l b n (length done) all → HasRun files l b n (length files) all
at_end l b n all done left files none e h = subst (λ (k : ℕ). HasRun files l b n k all) (ap length (sym (append-nil done) ∙ (ap (λ fs. done ++ fs) (sym none) ∙ e))) h
