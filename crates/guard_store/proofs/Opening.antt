-- What the keeper and the new session have once it was opened.
use Rattle.std.proofs.Common.{◌≡◌, ◌≢◌, ℕ, ◌+◌, ◌-◌, ◌<◌, ◌≤◌, ◌==◌, Bool, true, false, cond, List, [], ◌∷◌, ◌++◌, None, refl, sym, ap, ◌∙◌, subst, ⊎_elim, ne_eqb, nat_lt, ltb-true, arith}
use Rattle.std.specs.Prelude.{MatchBool}
use Rattle.std.proofs.lemmas.Bool.Decides.{nat_tests}
use Rattle.turn_lock.specs.History.{reserved, OthersAdded, has_number}
use Rattle.turn_lock.specs.Callers.{Caller, kept_caller, new_caller, met_caller}
use Rattle.turn_lock.proofs.Numbers.{has_here, has_among}
use Rattle.store_model.specs.declared.event.Limits.{Limits}
use Rattle.store_model.specs.declared.event.Event.{Event}
use Rattle.store_model.specs.declared.event.Action.TheVariants as actions
use Rattle.store_model.specs.declared.event.Reply.TheVariants as replies
use Rattle.store_model.specs.Store.{State, Step, Replays, OpensNext, OpensNothing, IsOpened}
use Rattle.store_model.proofs.Histories.{Replays-push}
use Rattle.session_laws.specs.Following.{is_opening}
use Rattle.session_laws.proofs.Placing.{within, opening}
use Rattle.guard_store.specs.Slots.{Origin}
use Rattle.guard_store.specs.Sessions.{StoreKeeper, StoreSession}
use Rattle.guard_store.specs.declared.faults.OpenFault.{OpenFault}
use Rattle.guard_store.specs.declared.faults.OpenFault.TheVariants.{SessionsFull, Memory}
use Rattle.guard_store.specs.Fronts.{SharedStore, session_of, Turn, At}
use Rattle.guard_store.specs.Callers.{IsCaller, IsKeeper, IsSession}
use Rattle.guard_store.specs.Answers.{Opens, OpensNot, OpensSession, IsFull, event_of}
use Rattle.guard_store.proofs.Growing.{replays_split, at_this}
use Rattle.guard_store.proofs.Turning.{opened_stays, front_is}

abbrev pub open_event : ℕ → Event
open_event i = event_of i actions.Open (replies.Session i)

-- an opening that gives a number
next_by : (s t : State) (i : ℕ) (b : Bool) → nat_lt s.opened 64 ≡ b → MatchBool b (OpensNext s i (replies.Session i) t) (OpensNothing s i (replies.Session i) t) → (i ≡ s.opened + 1) × (t.opened ≡ s.opened + 1) × (s.opened < 64)
next_by s t i true e h = (h.0, ap (λ (x : State). x.opened) h.1.1, ltb-true s.opened 64 e)
next_by s t i false e h = cc

pub next_number : (l : Limits) (s t : State) (i : ℕ) → Step l s (open_event i) t → (i ≡ s.opened + 1) × (t.opened ≡ s.opened + 1) × (s.opened < 64)
next_number l s t i step = next_by s t i (nat_lt s.opened 64) refl step

-- before it, the keeper's number of sessions is the store's
pub keeper_count : (store : SharedStore) (k : StoreKeeper) (new : Caller Event Origin) (e : Event) → IsKeeper store k → (t : Turn store k.pass new e) → t.before.opened ≡ k.opened
keeper_count store k new e is t =
    let front = k.pass.known.front in
    let r = replays_split store.limits store.start t.before front t.others.begins.0 (subst (λ (x : List Event). Replays store.limits store.start x t.before) (sym t.others.begins.1) t.replays) in
    let same : reserved session_of false (front ++ t.others.begins.0) ≡ reserved session_of false front = ap (reserved session_of false) t.others.begins.1 ∙ t.others.first is.first in
    opened_stays store.limits store.start front t.others.begins.0 r.0 t.before r.1 r.2 same ∙ is.opened r.0 r.1

-- the keeper's pass carries one wherever a turn gave a number
pub has_room : (store : SharedStore) (k : StoreKeeper) (i : ℕ) (mid : Caller Event Origin) → IsKeeper store k → Turn store k.pass mid (open_event i) → 0 < mid.spare
has_room store k i mid is t =
    let here = next_number store.limits t.before t.after i t.step in
    let count = keeper_count store k mid (open_event i) is t in
    let spare : mid.spare ≡ k.pass.spare = ap (λ c. c.spare) t.caller in
    omega (arith, here.2, count, is.room, spare)

-- its number is the next
pub number_opened : (store : SharedStore) (k : StoreKeeper) (i : ℕ) (mid : Caller Event Origin) → IsKeeper store k → Turn store k.pass mid (open_event i) → i ≡ k.opened + 1
number_opened store k i mid is t =
    let here = next_number store.limits t.before t.after i t.step in
    here.0 ∙ ap (λ n. n + 1) (keeper_count store k mid (open_event i) is t)

pub keeper_opened : (store : SharedStore) (k kept : StoreKeeper) (new : Caller Event Origin) (i : ℕ) → IsKeeper store k → Opens store k.pass kept.pass new i → kept.opened ≡ i → IsKeeper store kept
keeper_opened store k kept new i is o now =
    let t = o.turn in
    let e = open_event i in
    let here = next_number store.limits t.before t.after i t.step in
    let front : kept.pass.known.front ≡ t.seen ++ e ∷ [] = ap (λ c. c.known.front) o.kept_is ∙ front_is store k.pass o.mid e t in
    let spare : kept.pass.spare ≡ k.pass.spare - 1 = ap (λ c. c.spare) o.kept_is ∙ ap (λ (c : Caller Event Origin). c.spare - 1) t.caller in
    let room : 0 < k.pass.spare = subst (λ (x : ℕ). 0 < x) (ap (λ c. c.spare) t.caller) o.room in
    let number : i ≡ k.opened + 1 = number_opened store k i o.mid is t in record {
      lock = ap (λ c. c.lock) o.kept_is ∙ (ap (λ c. c.lock) t.caller ∙ is.lock);
      opening = ap (λ c. c.opening) o.kept_is ∙ (ap (λ c. c.opening) t.caller ∙ is.opening);
      first = ap (λ c. c.known.first) o.kept_is ∙ (ap (λ c. c.known.first) t.caller ∙ is.first);
      fresh = is.fresh;
      opened = subst (λ (x : List Event). At store x (λ s. s.opened ≡ kept.opened)) (sym front)
          (at_this store (λ s. s.opened ≡ kept.opened) (t.seen ++ e ∷ []) t.after (Replays-push store.limits store.start t.seen t.before t.after e t.replays t.step) (omega (arith, here.0, here.1, now)));
      room = omega (arith, spare, room, is.room, now, number);
    }

-- a turn under 0 opens nothing
zero_by : (l : Limits) (s t : State) (e : Event) (b : Bool) → is_opening e.action ≡ b → Step l s e t → e.session ≡ 0 → t.opened ≡ s.opened
zero_by l s t e true o h z = ⊎_elim
    (λ (x : (e.session ≡ s.opened + 1) × (t.opened ≡ s.opened + 1)). absurd (omega (arith, x.0, z)))
    (λ (x : (e.session ≡ 0) × (t.opened ≡ s.opened)). x.1) (opening l s t e.session e.action e.reply o h).1
zero_by l s t e false o h z = (within l s t e.session e.action e.reply o h).same

pub keeper_turned : (store : SharedStore) (k kept : StoreKeeper) (e : Event) → IsKeeper store k → Turn store k.pass kept.pass e → e.session ≡ 0 → kept.opened ≡ k.opened → IsKeeper store kept
keeper_turned store k kept e is t z now =
    let same : t.after.opened ≡ t.before.opened = zero_by store.limits t.before t.after e (is_opening e.action) refl t.step z in
    let count : t.before.opened ≡ k.opened = keeper_count store k kept.pass e is t in record {
      lock = ap (λ c. c.lock) t.caller ∙ is.lock;
      opening = ap (λ c. c.opening) t.caller ∙ is.opening;
      first = ap (λ c. c.known.first) t.caller ∙ is.first;
      fresh = is.fresh;
      opened = subst (λ (x : List Event). At store x (λ s. s.opened ≡ kept.opened)) (sym (front_is store k.pass kept.pass e t))
          (at_this store (λ s. s.opened ≡ kept.opened) (t.seen ++ e ∷ []) t.after (Replays-push store.limits store.start t.seen t.before t.after e t.replays t.step) (same ∙ (count ∙ sym now)));
      room = let spare : kept.pass.spare ≡ k.pass.spare = ap (λ c. c.spare) t.caller in omega (arith, spare, is.room, now);
    }

keeper_same : (store : SharedStore) (k kept : StoreKeeper) → IsKeeper store k → kept.pass ≡ k.pass → kept.opened ≡ k.opened → IsKeeper store kept
keeper_same store k kept is p n = record {
  lock = ap (λ c. c.lock) p ∙ is.lock;
  opening = ap (λ c. c.opening) p ∙ is.opening;
  first = ap (λ c. c.known.first) p ∙ is.first;
  fresh = is.fresh;
  opened = subst (λ (x : ℕ). At store kept.pass.known.front (λ s. s.opened ≡ x)) (sym n) (subst (λ (x : List Event). At store x (λ s. s.opened ≡ k.opened)) (sym (ap (λ c. c.known.front) p)) is.opened);
  room = let spare : kept.pass.spare ≡ k.pass.spare = ap (λ c. c.spare) p in omega (arith, spare, is.room, n);
}

-- the keeper goes on where nothing was opened
pub keeper_goes_on : (store : SharedStore) (k kept : StoreKeeper) (f : OpenFault) → IsKeeper store k → OpensNot f store k.pass kept.pass → kept.opened ≡ k.opened → IsKeeper store kept
keeper_goes_on store k kept SessionsFull is t n = keeper_turned store k kept (event_of 0 actions.Open replies.SessionsFull) is t refl n
keeper_goes_on store k kept Memory is t n = ⊎_elim
    (λ (same : kept.pass ≡ k.pass). keeper_same store k kept is same n)
    (λ (turn : Turn store k.pass kept.pass (event_of 0 actions.Void replies.Nothing)). keeper_turned store k kept (event_of 0 actions.Void replies.Nothing) is turn refl n) t

-- SessionsFull comes where 64 were given out
full_by : (s t : State) (b : Bool) → nat_lt s.opened 64 ≡ b → MatchBool b (OpensNext s 0 replies.SessionsFull t) (OpensNothing s 0 replies.SessionsFull t) → nat_lt s.opened 64 ≡ false
full_by s t true e h = cc
full_by s t false e h = e

pub is_full : (store : SharedStore) (k : StoreKeeper) (new : Caller Event Origin) (f : OpenFault) → IsKeeper store k → OpensNot f store k.pass new → IsFull f k.opened
is_full store k new SessionsFull is t =
    let none : nat_lt t.before.opened 64 ≡ false = full_by t.before t.after (nat_lt t.before.opened 64) refl t.step in
    let count : t.before.opened ≡ k.opened = keeper_count store k new (event_of 0 actions.Open replies.SessionsFull) is t in
    subst (λ (n : ℕ). 64 ≤ n) count (grind (arith, nat_tests, none))
is_full store k new Memory is t = tt

made_own : (b c : Bool) (n : ℕ) (ns : List ℕ) → b ≡ false → has_number ns n ≡ c → has_number (cond b ns (cond c ns (n ∷ ns))) n ≡ true
made_own true c n ns un is = absurd (let z : true ≡ false = un in cc)
made_own false true n ns un is = is
made_own false false n ns un is = has_here ns n

pub number_made : (store : SharedStore) (old mid : Caller Event Origin) (i : ℕ) → Turn store old mid (open_event i) → has_number mid.known.numbers i ≡ true
number_made store old mid i t =
    let here = next_number store.limits t.before t.after i t.step in
    let unmade : i ≢ 0 = λ zero. omega (arith, zero, here.0) in
    subst (λ (c : Caller Event Origin). has_number c.known.numbers i ≡ true) (sym t.caller) (made_own (i == 0) (has_number old.known.numbers i) i old.known.numbers (ne_eqb i 0 unmade) refl)

-- the new session has its number
pub caller_opened : (store : SharedStore) (k : StoreKeeper) (kept new : Caller Event Origin) (i : ℕ) → IsKeeper store k → Opens store k.pass kept new i → IsCaller store i new
caller_opened store k kept new i is o =
    let t = o.turn in
    let e = open_event i in
    let here = next_number store.limits t.before t.after i t.step in
    let some : 0 < i = omega (arith, here.0) in
    let front : new.known.front ≡ t.seen ++ e ∷ [] = ap (λ c. c.known.front) o.new_is ∙ front_is store k.pass o.mid e t in record {
      lock = ap (λ c. c.lock) o.new_is ∙ (ap (λ c. c.lock) t.caller ∙ is.lock);
      opening = ap (λ c. c.opening) o.new_is ∙ (ap (λ c. c.opening) t.caller ∙ is.opening);
      own = subst (λ (c : Caller Event Origin). has_number c.known.numbers i ≡ true) (sym o.new_is) (has_among i o.mid.known.numbers (number_made store k.pass o.mid i t));
      opened = subst (λ (x : List Event). At store x (λ s. IsOpened s i)) (sym front)
          (at_this store (λ s. IsOpened s i) (t.seen ++ e ∷ []) t.after (Replays-push store.limits store.start t.seen t.before t.after e t.replays t.step) (some, omega (arith, here.0, here.1)));
    }

pub session_opened : (store : SharedStore) (k : StoreKeeper) (kept : Caller Event Origin) (s : StoreSession) → IsKeeper store k → Opens store k.pass kept s.pass s.number → s.current ≡ None → IsSession store s
session_opened store k kept s is o none = record {
  caller = caller_opened store k kept s.pass s.number is o;
  fits = λ t r. rw none tt;
  kept = rw none tt;
  head = rw none tt;
}

-- the keeper met a session
pub keeper_met : (store : SharedStore) (k kept : StoreKeeper) (other : Caller Event Origin) → kept ≡ record k { pass = met_caller k.pass other } → OthersAdded session_of false k.pass.known kept.pass.known.front → IsKeeper store k → IsKeeper store kept
keeper_met store k kept other e o is =
    let p : kept.pass ≡ met_caller k.pass other = ap (λ x. x.pass) e in
    let n : kept.opened ≡ k.opened = ap (λ x. x.opened) e in
    let same : reserved session_of false kept.pass.known.front ≡ reserved session_of false k.pass.known.front = o.first is.first in record {
      lock = ap (λ x. x.lock) p ∙ is.lock;
      opening = ap (λ x. x.opening) p ∙ is.opening;
      first = ap (λ x. x.known.first) p ∙ is.first;
      fresh = is.fresh;
      opened = λ t h.
          let r = replays_split store.limits store.start t k.pass.known.front o.begins.0 (subst (λ (x : List Event). Replays store.limits store.start x t) (sym o.begins.1) h) in
          opened_stays store.limits store.start k.pass.known.front o.begins.0 r.0 t r.1 r.2 (ap (reserved session_of false) o.begins.1 ∙ same) ∙ (is.opened r.0 r.1 ∙ sym n);
      room = let spare : kept.pass.spare ≡ k.pass.spare + 1 = ap (λ x. x.spare) p in omega (arith, spare, is.room, n);
    }

-- the keeper opened a session
pub opens_session : (store : SharedStore) (k kept : StoreKeeper) (s : StoreSession) (mid : Caller Event Origin) (i : ℕ) → IsKeeper store k → Turn store k.pass mid (open_event i) → kept ≡ record { pass = kept_caller i mid; opened = i }
    → s ≡ record { pass = new_caller i mid; number = i; current = None; head = None } → OpensSession store k kept s
opens_session store k kept s mid i is t e h =
    let o : Opens store k.pass (kept_caller i mid) (new_caller i mid) i = record { mid = mid; turn = t; kept_is = refl; new_is = refl; room = has_room store k i mid is t } in
    let now : StoreKeeper = record { pass = kept_caller i mid; opened = i } in
    let new : StoreSession = record { pass = new_caller i mid; number = i; current = None; head = None } in
    let count : t.before.opened ≡ k.opened = keeper_count store k mid (open_event i) is t in
    let few : k.opened < 64 = subst (λ (n : ℕ). n < 64) count (next_number store.limits t.before t.after i t.step).2 in
    let all : OpensSession store k now new = record {
      keeper = keeper_opened store k now (new_caller i mid) i is o refl;
      session = session_opened store k (kept_caller i mid) new is o refl;
      opens = o;
      number = number_opened store k i mid is t;
      opened = refl;
      few = few;
      none = refl;
      head = refl;
    } in
    subst (λ (x : StoreKeeper). OpensSession store k x s) (sym e) (subst (λ (x : StoreSession). OpensSession store k now x) (sym h) all)

pub spare_opened : (store : SharedStore) (old mid : Caller Event Origin) (i : ℕ) (kept : StoreKeeper) (e : Event) → Turn store old mid e → 0 < mid.spare → kept ≡ record { pass = kept_caller i mid; opened = i } → kept.pass.spare + 1 ≡ old.spare
spare_opened store old mid i kept e t some is =
    let one : kept.pass.spare ≡ mid.spare - 1 = ap (λ k. k.pass.spare) is in
    let two : mid.spare ≡ old.spare = ap (λ c. c.spare) t.caller in
    omega (arith, one, two, some)

pub spare_left : (store : SharedStore) (old new : Caller Event Origin) (f : OpenFault) → OpensNot f store old new → new.spare ≡ old.spare
spare_left store old new SessionsFull t = ap (λ c. c.spare) t.caller
spare_left store old new Memory t = ⊎_elim (λ (same : new ≡ old). ap (λ c. c.spare) same) (λ (turn : Turn store old new (event_of 0 actions.Void replies.Nothing)). ap (λ c. c.spare) turn.caller) t
