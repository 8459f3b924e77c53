-- Players that were opened, and players that are met.
use Rattle.std.proofs.Common.{◌≡◌, ℕ, zero, suc, ◌+◌, ◌-◌, ◌<◌, true, false, List, [], ◌∷◌, ◌++◌, length, map, get_or, reverse, Option, Some, None, refl, sym, ap, ◌∙◌, subst, arith, length-append}
use Rattle.std.proofs.lemmas.List.{append-nil, get_or-map, reverse-append}
use mathlib.Core.Logic.{dite}
use native.Mathlib.Decide.{ℕ_discrete}
use Rattle.std.specs.List.{AllByRecursion}
use Rattle.std.specs.Option.{IsSome}
use Rattle.turn_lock.specs.History.{OthersAdded, has_number, reserved, under}
use Rattle.turn_lock.specs.Callers.{Caller, met_caller}
use Rattle.store_model.specs.declared.event.Event.{Event}
use Rattle.store_model.specs.Store.{RecordedStore, Replays, State}
use Rattle.session_model.specs.declared.command.Command.{Command}
use Rattle.session_model.specs.declared.reply.SessionReply.{SessionReply}
use Rattle.session_model.specs.Sessions.{SessionState, no_session}
use Rattle.disk.specs.Crashes.{History}
use Rattle.commit_log.specs.Log.{LogState}
use Rattle.store_model.specs.declared.event.Limits.{Limits}
use Rattle.session_laws.specs.Following.{Follow, Follows, fault_place, first_state}
use Rattle.session_laws.proofs.Running.{following_runs}
use Rattle.session_laws.proofs.Unfailed.{never_failed}
use Rattle.guard_store.specs.Sessions.{StoreKeeper, StoreSession}
use Rattle.guard_store.specs.Slots.{HasItsLog, LogOrigin, Origin, log_origin}
use Rattle.guard_store.specs.Fronts.{SharedStore, session_of}
use Rattle.guard_store.specs.Callers.{IsKeeper}
use Rattle.guard_store.specs.Answers.{Opens, OpensSession}
use Rattle.session_transaction.specs.Logging.{StandsBeside}
use Rattle.guard_store.proofs.Slots.{its_first}
use Rattle.guard_store.proofs.Turning.{fresh, front_is}
use Rattle.guard_store.proofs.Opening.{open_event, next_number}
use Rattle.guard_store.proofs.Telling.{openings_add_one}
use Rattle.session_threads.specs.Playing.{HasPlayed, PlaysAll}
use Rattle.session_threads.specs.Ends.{EndsNewRun, EndsRun, HasEnd, LeavesStore}
use Rattle.session_threads.specs.Team.{HasAll, HasEnded, HasLock, HasPlayedFile, IsHere, IsSound, IsStarting, Stands, IsOver, EndsWith, Met, TeamPlayer, files_of}
use Rattle.session_threads.proofs.Keeping.{follows_append, follows_others, follows_opening}
use Rattle.session_threads.proofs.Closing.{still_has, now_has, closes}

all_end : (es : List Event) (e : Event) → AllByRecursion (λ x. 0 < x.session) es → 0 < e.session → AllByRecursion (λ x. 0 < x.session) (es ++ e ∷ [])
all_end [] e a h = (h, tt)
all_end (x ∷ xs) e a h = (a.0, all_end xs e a.1 h)

-- the keeper has seen no entry under 0 still
pub sound_opened : (store : SharedStore) (old new : StoreKeeper) (s : StoreSession) → IsSound store old → OpensSession store old new s → IsSound store new
sound_opened store old new s is o =
    let some : 0 < s.number = omega (arith, o.number) in record {
      keeper = o.keeper;
      numbered = subst (AllByRecursion (λ e. 0 < e.session)) (sym (openings_add_one store old.pass new.pass s.pass s.number is.keeper.first o.opens).reserved)
          (all_end (reserved session_of false old.pass.known.front) (open_event s.number) is.numbered some);
    }

-- the new session stands before its first event
stands_opened : (store : SharedStore) (old kept : Caller Event Origin) (s : StoreSession) → Opens store old kept s.pass s.number → (p : SessionState) → Follows store.limits s.number store.start s.pass.known.front p p
stands_opened store old kept s o p =
    let l = store.limits in
    let start = store.start in
    let t = o.turn in
    let i = s.number in
    let e = open_event i in
    let here = next_number l t.before t.after i t.step in
    let front : s.pass.known.front ≡ t.seen ++ e ∷ [] = ap (λ c. c.known.front) o.new_is ∙ front_is store old o.mid e t in
    let none : under session_of i t.seen ≡ [] = fresh l start t.before t.seen i t.replays (omega (arith, here.0)) in
    subst (λ (x : List Event). Follows l i start x p p) (sym front)
    (follows_append l i start t.seen (e ∷ []) p p p (follows_others l i start t.seen p none) (λ m r. follows_opening l i m e p refl))

pub starting_opened : (store : SharedStore) (old kept : StoreKeeper) (s : StoreSession) (n : ℕ) (commands : List Command) → OpensSession store old kept s → n ≡ s.number → IsStarting store (record { session = Some s; number = n; commands = commands; replies = None })
starting_opened store old kept s n commands o is =
    let count : s.number ≡ old.opened + 1 = o.number in
    subst (λ (k : ℕ). IsStarting store (record { session = Some s; number = k; commands = commands; replies = None })) (sym is)
    (omega (arith, count), refl, (refl, o.session, o.none, stands_opened store old.pass kept.pass s o.opens))

-- a session was opened for each file
pub all_opened : (done left files : List (List Command)) → left ≡ [] → done ++ left ≡ files → done ≡ files
all_opened done left files none e = sym (append-nil done) ∙ (ap (λ fs. done ++ fs) (sym none) ∙ e)

-- each player played the file of its number
pub each_ended : (store : SharedStore) (olds news : List TeamPlayer) → length news ≡ length olds → ((k : ℕ) (d : TeamPlayer) → k < length olds → (get_or olds k d).number ≡ k + 1)
    → ((k : ℕ) (d : TeamPlayer) → k < length olds → HasPlayedFile store (get_or olds k d).commands (get_or news k d)) → ((k : ℕ) (d : TeamPlayer) → k < length olds → (get_or news k d).number ≡ (get_or olds k d).number)
    → (k : ℕ) (d : TeamPlayer) → k < length news → HasEnded store (files_of olds) (get_or news k d)
each_ended store olds news count numbered played same k d lt =
    let in_olds : k < length olds = omega (arith, lt, count) in
    let p : TeamPlayer = get_or news k d in
    let place : p.number - 1 ≡ k = omega (arith, same k d in_olds, numbered k d in_olds) in
    let file : get_or (files_of olds) (p.number - 1) [] ≡ (get_or olds k d).commands = ap (λ n. get_or (files_of olds) n []) place ∙ get_or-map (λ q. q.commands) olds k d [] in_olds in
    subst (λ (cs : List Command). HasPlayedFile store cs p) (sym file) (played k d in_olds)

pub met_none : (files : List (List Command)) (store : SharedStore) (c : Caller Event Origin) → Met files store (length files) c []
met_none files store c = record { over = []; count = omega arith; left = tt; replies = refl; each = λ j n e lt. absurd (omega (arith, lt)) }

met_each : (store : SharedStore) (files : List (List Command)) (k : ℕ) (c after : Caller Event Origin) (s : StoreSession) (all : List (List SessionReply)) (replies : List SessionReply) (m : Met files store (k + 1) c all)
    → after ≡ met_caller c s.pass → OthersAdded session_of false c.known after.known.front → OthersAdded session_of false s.pass.known after.known.front → (o : IsOver store (k + 1) (get_or files k []) replies s)
    → (j n : ℕ) → n ≡ k + j → j < length (record { current = o.current; commands = []; replies = replies } ∷ m.over)
    → HasAll store (n + 1) (first_state (get_or files n [])) (get_or (record { current = o.current; commands = []; replies = replies } ∷ m.over) j no_session) after
met_each store files k c after s all replies m is this that o zero n e lt =
    let q : SessionState = record { current = o.current; commands = []; replies = replies } in
    let here : k ≡ n = omega (arith, e) in
    subst (λ (x : ℕ). HasAll store (x + 1) (first_state (get_or files x [])) q after) here
    (now_has store (k + 1) (first_state (get_or files k [])) q c s.pass after is that (record { own = subst (λ (x : ℕ). has_number s.pass.known.numbers x ≡ true) o.number o.session.caller.own; follows = o.played }))
met_each store files k c after s all replies m is this that o (suc j) n e lt =
    still_has store (n + 1) (first_state (get_or files n [])) (get_or m.over j no_session) c s.pass after is this (m.each j n (omega (arith, e)) (omega (arith, lt)))

pub met_next : (store : SharedStore) (files : List (List Command)) (k : ℕ) (c after : Caller Event Origin) (s : StoreSession) (all : List (List SessionReply)) (replies : List SessionReply) → Met files store (k + 1) c all
    → after ≡ met_caller c s.pass → OthersAdded session_of false c.known after.known.front → OthersAdded session_of false s.pass.known after.known.front → IsOver store (k + 1) (get_or files k []) replies s
    → Met files store k after (replies ∷ all)
met_next store files k c after s all replies m is this that o =
    let q : SessionState = record { current = o.current; commands = []; replies = replies } in record {
      over = q ∷ m.over;
      count = let e : length (q ∷ m.over) ≡ length m.over + 1 = omega arith in omega (arith, e, m.count);
      left = (refl, m.left);
      replies = ap (λ rs. replies ∷ rs) m.replies;
      each = met_each store files k c after s all replies m is this that o;
    }

-- all were met, and the store was closed
runs : (store : SharedStore) (files : List (List Command)) (k : StoreKeeper) (core : RecordedStore) (all : List (List SessionReply)) → IsSound store k → k.opened ≡ length files → Met files store 0 k.pass all → core.history ≡ k.pass.known.front → core.limits ≡ store.limits → core.start ≡ store.start
    → Replays core.limits core.start core.history core.state
    → Follow files store.limits store.start core.history all × HasEnd files store.limits store.start (map (λ e. e.session) core.history) (fault_place core.history) all (length core.state.graph)
runs store files k core all sound n m is limits begins replays =
    let count : length m.over ≡ length files = omega (arith, m.count) in
    let follow = closes store files k core m.over sound n is limits begins replays count (λ i lt. m.each i i (omega arith) (omega (arith, lt, count))) m.left in
    let replies : List (List SessionReply) = map (λ s. s.replies) m.over in
    let run = following_runs files store.limits store.start core.history replies follow.0 in
    let ends : run.0.last.state ≡ core.state = run.1 ∙ follow.1 in
    subst (λ (rs : List (List SessionReply)). Follow files store.limits store.start core.history rs × HasEnd files store.limits store.start (map (λ e. e.session) core.history) (fault_place core.history) rs (length core.state.graph)) (sym m.replies)
    (follow.0, (run.0, ap (λ (s : State). length s.graph) (sym ends)))

module _ {D : Type 0} (tells : Type 0) (bytes : D → List ℕ) (history : D → History) (chosen : D → Option (List ℕ)) (faults : D → ℕ) (first : RecordedStore) (log : Option (LogState D)) (store : SharedStore) (limits_are : store.limits ≡ first.limits) (start_is : store.start ≡ first.start) (log_is : store.log ≡ log_origin bytes history chosen faults log) where
  -- the store was closed
  pub leaves : (core : RecordedStore) (later : Option (LogState D)) → core.limits ≡ store.limits → core.start ≡ store.start → Replays core.limits core.start core.history core.state → HasItsLog tells bytes history chosen faults store.log core later
      → LeavesStore tells bytes history chosen faults first log core later
  leaves core later limits begins replays its = record {
    limits = limits ∙ limits_are;
    start = begins ∙ start_is;
    replays = replays;
    its = subst (λ (o : Option LogOrigin). HasItsLog tells bytes history chosen faults o core later) log_is its;
  }

  pub run_ends : (files : List (List Command)) (k : StoreKeeper) (core : RecordedStore) (later : Option (LogState D)) (order : List ℕ) (all : List (List SessionReply)) → IsSound store k → k.opened ≡ length files → Met files store 0 k.pass all → core.history ≡ k.pass.known.front
      → core.limits ≡ store.limits → core.start ≡ store.start → Replays core.limits core.start core.history core.state → HasItsLog tells bytes history chosen faults store.log core later → order ≡ map (λ e. e.session) core.history
      → EndsRun tells bytes history chosen faults files first log order all core later
  run_ends files k core later order all sound n m is limits begins replays its order_is =
      let r = runs store files k core all sound n m is limits begins replays in
      let at : Follow files first.limits first.start core.history all × HasEnd files first.limits first.start (map (λ e. e.session) core.history) (fault_place core.history) all (length core.state.graph) =
      subst (λ (s : State). Follow files first.limits s core.history all × HasEnd files first.limits s (map (λ e. e.session) core.history) (fault_place core.history) all (length core.state.graph)) start_is
      (subst (λ (l : Limits). Follow files l store.start core.history all × HasEnd files l store.start (map (λ e. e.session) core.history) (fault_place core.history) all (length core.state.graph)) limits_are r) in record {
        leaves = leaves core later limits begins replays its;
        follow = at.0;
        order_is = order_is;
        ends = subst (λ (o : List ℕ). HasEnd files first.limits first.start o (fault_place core.history) all (length core.state.graph)) (sym order_is) at.1;
      }

-- without a log none fails
unlogged : {D : Type 0} (tells : Type 0) (bytes : D → List ℕ) (history : D → History) (chosen : D → Option (List ℕ)) (faults : D → ℕ) (core : RecordedStore) (later : Option (LogState D)) → HasItsLog tells bytes history chosen faults None core later → core.state.stopped ≡ false
unlogged tells bytes history chosen faults core None h = h
unlogged tells bytes history chosen faults core (Some log) h = absurd h

pub unlogged_end : {D : Type 0} (tells : Type 0) (bytes : D → List ℕ) (history : D → History) (chosen : D → Option (List ℕ)) (faults : D → ℕ) (files : List (List Command)) (core : RecordedStore) (order : List ℕ) (all : List (List SessionReply)) (last : RecordedStore) (later : Option (LogState D))
    → EndsRun tells bytes history chosen faults files core None order all last later → HasEnd files core.limits core.start order None all (length last.state.graph)
unlogged_end tells bytes history chosen faults files core order all last later e =
    let on : last.state.stopped ≡ false = unlogged tells bytes history chosen faults last later e.leaves.its in
    subst (λ (o : Option ℕ). HasEnd files core.limits core.start order o all (length last.state.graph)) (never_failed last.limits last.start last.state last.history on e.leaves.replays) e.ends

pub new_run_ends : {D : Type 0} (tells : Type 0) (bytes : D → List ℕ) (history : D → History) (chosen : D → Option (List ℕ)) (faults : D → ℕ) (files : List (List Command)) (core : RecordedStore) (order : List ℕ) (all : List (List SessionReply)) (last : RecordedStore) (later : Option (LogState D))
    → EndsRun tells bytes history chosen faults files core None order all last later → EndsNewRun files core.limits core.start order all last
new_run_ends tells bytes history chosen faults files core order all last later e = record {
  limits = e.leaves.limits;
  start = e.leaves.start;
  replays = e.leaves.replays;
  follow = e.follow;
  order_is = e.order_is;
  ends = unlogged_end tells bytes history chosen faults files core order all last later e;
}

-- of a list that lost its last item, or got one
get_or_left : {A : Type 0} (xs ys : List A) (k : ℕ) (d : A) → k < length xs → get_or (xs ++ ys) k d ≡ get_or xs k d
get_or_left [] ys k d lt = absurd (omega (arith, lt))
get_or_left (x ∷ xs) ys zero d lt = refl
get_or_left (x ∷ xs) ys (suc k) d lt = get_or_left xs ys k d (omega (arith, lt))

get_or_last : {A : Type 0} (xs : List A) (y d : A) → get_or (xs ++ y ∷ []) (length xs) d ≡ y
get_or_last [] y d = refl
get_or_last (x ∷ xs) y d = get_or_last xs y d

pub all_left : {A : Type 0} (Q : ℕ → A → Type 0) (all xs : List A) (y : A) → all ≡ xs ++ y ∷ [] → ((k : ℕ) (d : A) → k < length all → Q k (get_or all k d))
    → (k : ℕ) (d : A) → k < length xs → Q k (get_or xs k d)
all_left {A} Q all xs y is q k d lt =
    let in_all : k < length all = omega (arith, lt, ap length is, length-append xs (y ∷ [])) in
    subst (Q k) (ap (λ (zs : List A). get_or zs k d) is ∙ get_or_left xs (y ∷ []) k d lt) (q k d in_all)

pub of_last : {A : Type 0} (Q : ℕ → A → Type 0) (all xs : List A) (y : A) → all ≡ xs ++ y ∷ [] → ((k : ℕ) (d : A) → k < length all → Q k (get_or all k d)) → Q (length xs) y
of_last {A} Q all xs y is q =
    let in_all : length xs < length all = omega (arith, ap length is, length-append xs (y ∷ [])) in
    subst (Q (length xs)) (ap (λ (zs : List A). get_or zs (length xs) y) is ∙ get_or_last xs y y) (q (length xs) y in_all)

pub all_pushed : {A : Type 0} (Q : ℕ → A → Type 0) (all xs : List A) (y : A) → all ≡ xs ++ y ∷ [] → ((k : ℕ) (d : A) → k < length xs → Q k (get_or xs k d)) → Q (length xs) y
    → (k : ℕ) (d : A) → k < length all → Q k (get_or all k d)
all_pushed {A} Q all xs y is q last k d lt = dite (ℕ_discrete k (length xs))
    (λ same. subst (λ (n : ℕ). Q n (get_or all n d)) (sym same) (subst (Q (length xs)) (sym (ap (λ (zs : List A). get_or zs (length xs) d) is ∙ get_or_last xs y d)) last))
    (λ other.
    let less : k < length xs = omega (arith, lt, ap length is, length-append xs (y ∷ []), other) in
    subst (Q k) (sym (ap (λ (zs : List A). get_or zs k d) is ∙ get_or_left xs (y ∷ []) k d less)) (q k d less))

-- a player that has replies is over
pub over_of : (store : SharedStore) (files : List (List Command)) (i k : ℕ) (r : Option (List SessionReply)) (s : Option StoreSession) (replies : List SessionReply) (session : StoreSession) → i ≡ k + 1 → r ≡ Some replies → s ≡ Some session
    → EndsWith store i (get_or files (i - 1) []) r s → IsOver store (k + 1) (get_or files k []) replies session
over_of store files i k r s replies session at er es h =
    let place : i - 1 ≡ k = omega (arith, at) in
    subst (λ (x : Option StoreSession). EndsWith store (k + 1) (get_or files k []) (Some replies) x) es
    (subst (λ (x : Option (List SessionReply)). EndsWith store (k + 1) (get_or files k []) x s) er
    (subst (λ (n : ℕ). EndsWith store (k + 1) (get_or files n []) r s) place (subst (λ (n : ℕ). EndsWith store n (get_or files (i - 1) []) r s) at h)))

pub reverse_last : {A : Type 0} (all xs : List A) (x : A) → all ≡ xs ++ x ∷ [] → reverse all ≡ x ∷ reverse xs
reverse_last all xs x e = ap reverse e ∙ reverse-append xs (x ∷ [])

pub lock_of : (store : SharedStore) (files : List (List Command)) (k : ℕ) (replies : List SessionReply) (s : StoreSession) → IsOver store (k + 1) (get_or files k []) replies s → s.pass.lock ≡ store.id
lock_of store files k replies s o = o.session.caller.lock

-- the keeper of a new store has seen nothing
pub sound_new : (store : SharedStore) (k : StoreKeeper) → IsKeeper store k → k.pass.known.front ≡ [] → IsSound store k
sound_new store k is e = record { keeper = is; numbered = subst (λ (x : List Event). AllByRecursion (λ e. 0 < e.session) (reserved session_of false x)) (sym e) tt }

-- what is known of the session of a player that starts
pub stands_of : (store : SharedStore) (i : ℕ) (o : Option StoreSession) (s : StoreSession) → o ≡ Some s → Stands store i o → Stands store i (Some s)
stands_of store i o s e h = subst (Stands store i) e h

-- it has played its file
pub over_now : (store : SharedStore) (i : ℕ) (file : List Command) (old new : StoreSession) (replies : List SessionReply) → Stands store i (Some old) → PlaysAll store old new file replies → IsOver store i file replies new
over_now store i file old new replies h p =
    let same : new.number ≡ i = p.number ∙ h.0 in record {
      session = p.session;
      number = same;
      current = p.current;
      played = subst (λ (k : ℕ). HasPlayed store k new.pass.known.front file (record { current = p.current; commands = []; replies = replies })) same
          (p.goes (subst (λ (k : ℕ). HasPlayed store k old.pass.known.front file (first_state file)) (sym h.0) (h.3 (first_state file))));
    }

-- a player may be met, before it plays and once it has
pub ended_here : (store : SharedStore) (i : ℕ) (file : List Command) (r : Option (List SessionReply)) (s : Option StoreSession) → EndsWith store i file r s → IsHere store s
ended_here store i file None s h = h
ended_here store i file (Some replies) None h = absurd h
ended_here store i file (Some replies) (Some s) h = h.session.caller.lock

stands_here : (store : SharedStore) (i : ℕ) (s : Option StoreSession) → Stands store i s → IsHere store s
stands_here store i None h = absurd h
stands_here store i (Some s) h = h.1.caller.lock

pub starting_here : (store : SharedStore) (p : TeamPlayer) → IsStarting store p → HasLock store p
starting_here store p h = stands_here store p.number p.session h.2

pub some_here : (store : SharedStore) (o : Option StoreSession) → IsHere store o → IsSome o
some_here store None h = absurd h
some_here store (Some s) h = refl

pub here_lock : (store : SharedStore) (o : Option StoreSession) (s : StoreSession) → o ≡ Some s → IsHere store o → s.pass.lock ≡ store.id
here_lock store o s e h = subst (IsHere store) e h

-- those that are left where one was taken out may be met
pub here_left : (store : SharedStore) (files : List (List Command)) (all xs : List TeamPlayer) (y : TeamPlayer) → all ≡ xs ++ y ∷ [] → ((k : ℕ) (d : TeamPlayer) → k < length all → HasEnded store files (get_or all k d))
    → (k : ℕ) (d : TeamPlayer) → k < length xs → HasLock store (get_or xs k d)
here_left store files all xs y is h k d lt =
    let w : TeamPlayer = get_or xs k d in
    ended_here store w.number (get_or files (w.number - 1) []) w.replies w.session (all_left (λ _ (p : TeamPlayer). HasEnded store files p) all xs y is h k d lt)

-- a store that wasn't made leaves the core and the log as they were
pub never_began : {D : Type 0} (tells : Type 0) (bytes : D → List ℕ) (history : D → History) (chosen : D → Option (List ℕ)) (faults : D → ℕ) (core : RecordedStore) (log later : Option (LogState D)) → core.history ≡ [] → core.state.stopped ≡ false → StandsBeside core log
    → Replays core.limits core.start core.history core.state → later ≡ log → LeavesStore tells bytes history chosen faults core log core later
never_began {D} tells bytes history chosen faults core log later fresh on beside replays same = subst (λ (o : Option (LogState D)). LeavesStore tells bytes history chosen faults core log core o) (sym same) (record {
  limits = refl;
  start = refl;
  replays = replays;
  its = its_first tells bytes history chosen faults core log fresh on beside;
})
