-- What the keeper has at the end: each session's events, and a history of the files.
use Rattle.std.proofs.Common.{◌≡◌, ℕ, ◌+◌, ◌<◌, Bool, true, false, cond, List, [], ◌∷◌, ◌++◌, length, map, get_or, refl, sym, ap, ◌∙◌, subst, eq-eqb, arith}
use Rattle.std.specs.List.{AllByRecursion}
use mathlib.Core.Logic.{dite}
use native.Mathlib.Decide.{ℕ_discrete}
use Rattle.turn_lock.specs.History.{under, is_empty, is_reserved, reserved_after, OthersAdded, has_number}
use Rattle.turn_lock.specs.Callers.{Caller, met_caller}
use Rattle.turn_lock.proofs.Numbers.{has_left, has_right}
use Rattle.store_model.specs.declared.event.Limits.{Limits}
use Rattle.store_model.specs.declared.event.Event.{Event}
use Rattle.store_model.specs.Store.{RecordedStore, Replays, State}
use Rattle.session_model.specs.declared.command.Command.{Command}
use Rattle.session_model.specs.Sessions.{SessionState, no_session}
use Rattle.session_laws.specs.Following.{Follows, first_state, Follow}
use Rattle.guard_store.specs.Sessions.{StoreKeeper}
use Rattle.guard_store.specs.Slots.{Origin}
use Rattle.guard_store.specs.Fronts.{SharedStore, session_of}
use Rattle.guard_store.specs.Callers.{IsKeeper}
use Rattle.session_threads.specs.Team.{HasAll, IsSound}
use Rattle.session_threads.proofs.Keeping.{played_still}

-- entries under 0 are the first caller's alone
all_rest : (b : Bool) (e : Event) (es : List Event) → AllByRecursion (λ x. 0 < x.session) (cond b (e ∷ es) es) → AllByRecursion (λ x. 0 < x.session) es
all_rest true e es h = h.1
all_rest false e es h = h

all_first : (b : Bool) (e : Event) (es : List Event) → b ≡ true → AllByRecursion (λ x. 0 < x.session) (cond b (e ∷ es) es) → 0 < e.session
all_first true e es y h = h.0
all_first false e es y h = cc

numbered : (before es : List Event) → AllByRecursion (λ e. 0 < e.session) (reserved_after session_of false before es) → AllByRecursion (λ e. 0 < e.session) es
numbered before [] h = tt
numbered before (e ∷ es) h =
    let rest = reserved_after session_of false (before ++ e ∷ []) es in
    let some : 0 < e.session = dite (ℕ_discrete e.session 0)
    (λ zero. all_first (is_reserved session_of false before e) e rest (ap (λ b. cond b true (is_empty (under session_of e.session before))) (eq-eqb e.session 0 zero)) h)
    (λ other. omega (arith, other)) in
    (some, numbered (before ++ e ∷ []) es (all_rest (is_reserved session_of false before e) e rest h))

-- what it had from sessions that it met before
pub still_has : (store : SharedStore) (i : ℕ) (p q : SessionState) (c other after : Caller Event Origin) → after ≡ met_caller c other → OthersAdded session_of false c.known after.known.front → HasAll store i p q c → HasAll store i p q after
still_has store i p q c other after is o h = record {
  own = subst (λ k. has_number k.known.numbers i ≡ true) (sym is) (has_left c.known.numbers other.known.numbers i h.own);
  follows = played_still store.limits store.start i c.known after.known.front p q h.own o h.follows;
}

-- what it has from the session that it meets
pub now_has : (store : SharedStore) (i : ℕ) (p q : SessionState) (c other after : Caller Event Origin) → after ≡ met_caller c other → OthersAdded session_of false other.known after.known.front → HasAll store i p q other → HasAll store i p q after
now_has store i p q c other after is o h = record {
  own = subst (λ k. has_number k.known.numbers i ≡ true) (sym is) (has_right c.known.numbers other.known.numbers i h.own);
  follows = played_still store.limits store.start i other.known after.known.front p q h.own o h.follows;
}

pub sound_met : (store : SharedStore) (old new : StoreKeeper) → IsSound store old → IsKeeper store new → OthersAdded session_of false old.pass.known new.pass.known.front → IsSound store new
sound_met store old new is k o = record { keeper = k; numbered = subst (AllByRecursion (λ e. 0 < e.session)) (sym (o.first is.keeper.first)) is.numbered }

-- all sessions were met, and the store stands for the keeper's front
pub closes : (store : SharedStore) (files : List (List Command)) (k : StoreKeeper) (core : RecordedStore) (last : List SessionState) → IsSound store k → k.opened ≡ length files → core.history ≡ k.pass.known.front → core.limits ≡ store.limits → core.start ≡ store.start
    → Replays core.limits core.start core.history core.state → length last ≡ length files → ((i : ℕ) → i < length files → HasAll store (i + 1) (first_state (get_or files i [])) (get_or last i no_session) k.pass)
    → AllByRecursion (λ s. s.commands ≡ []) last → (f : Follow files store.limits store.start core.history (map (λ s. s.replies) last)) × (f.state ≡ core.state)
closes store files k core last sound n is limits begins replays count each left =
    let l = store.limits in
    let start = store.start in
    let at : Replays l start core.history core.state = subst (λ (s : State). Replays l s core.history core.state) begins (subst (λ (x : Limits). Replays x core.start core.history core.state) limits replays) in (
      record {
        state = core.state;
        last = last;
        replays = at;
        opened = sound.keeper.opened core.state (subst (λ (x : List Event). Replays l start x core.state) is at) ∙ n;
        count = count;
        numbered = subst (AllByRecursion (λ e. 0 < e.session)) (sym is) (numbered [] k.pass.known.front sound.numbered);
        each = λ i lt. subst (λ (x : List Event). Follows l (i + 1) start x (first_state (get_or files i [])) (get_or last i no_session)) (sym is) (each i lt).follows;
        left = left;
        replies = refl;
      },
      refl,
    )
