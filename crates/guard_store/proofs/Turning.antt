-- What a turn tells the caller, and what the keeper has at the end.
use Rattle.std.proofs.Common.{◌≡◌, ◌≢◌, ℕ, ◌+◌, ◌<◌, ◌==◌, Bool, true, false, cond, List, [], ◌∷◌, ◌++◌, length, Option, Some, None, refl, sym, ap, ◌∙◌, subst, inl, inr, ⊎_elim, eq-eqb, ne_eqb, append_assoc, length-append, arith}
use mathlib.Core.List.{IsPrefix}
use Rattle.turn_lock.specs.History.{under, is_empty, is_reserved, reserved, MayAdd, OthersAdded, known_after, has_number}
use Rattle.turn_lock.specs.Meaning.{ComesFrom}
use Rattle.turn_lock.specs.Callers.{Caller}
use Rattle.turn_lock.proofs.Added.{reserved_own, reserved_other, reserved_grows}
use Rattle.turn_lock.proofs.Prefixes.{prefix_length}
use Rattle.turn_lock.proofs.Numbers.{has_later}
use Rattle.store_model.specs.declared.event.Limits.{Limits}
use Rattle.store_model.specs.declared.event.Event.{Event}
use Rattle.store_model.specs.declared.event.NameKind.{NameKind}
use Rattle.store_model.specs.declared.event.Action.TheVariants as actions
use Rattle.store_model.specs.declared.event.Reply.TheVariants as replies
use Rattle.rdf_model.specs.declared.term.Term.{Term}
use Rattle.commit_core.specs.declared.naming.NamingFault.{NamingFault}
use Rattle.commit_core.specs.declared.naming.NamingFault.TheVariants as names
use Rattle.commit_core.specs.declared.store.SessionFault.{SessionFault}
use Rattle.commit_core.specs.declared.store.SessionFault.TheVariants as sessions
use Rattle.commit_core.specs.Faults.{NamesNone, OpensNone}
use Rattle.store_model.specs.Store.{State, RecordedStore, Step, Replays, TakesStep, IsOpened}
use Rattle.store_model.proofs.Histories.{Replays-push}
use Rattle.session_laws.specs.Following.{is_opening}
use Rattle.session_laws.proofs.Placing.{within, opening, grows, grows_all}
use Rattle.session_transaction.proofs.Growing.{More}
use Rattle.guard_store.specs.Slots.{LogOrigin, Origin}
use Rattle.guard_store.specs.Fronts.{SharedStore, opening_of, session_of, turned_pass, Turn, At, Entered, MayLeave}
use Rattle.guard_store.specs.Callers.{IsCaller}
use Rattle.guard_store.proofs.Growing.{still_at}

-- a session that wasn't opened has no event
pub fresh : (l : Limits) (s t : State) (es : List Event) (j : ℕ) → Replays l s es t → t.opened < j → under session_of j es ≡ []
fresh l s t [] j h lt = refl
fresh l s t (e ∷ es) j h lt =
    let g = grows l s h.0 e.session e.action e.reply h.1 in
    let more = grows_all l h.0 t es h.2 in
    let other : e.session ≢ j = λ same. omega (arith, same, g.under, more, lt) in
    ap (λ b. cond b (e ∷ under session_of j es) (under session_of j es)) (ne_eqb e.session j other) ∙ fresh l h.0 t es j h.2 lt

-- an opening is an entry that the first caller alone makes
pub opening_reserved : (l : Limits) (start : State) (f : List Event) (s m : State) (e : Event) → Replays l start f s → Step l s e m → is_opening e.action ≡ true → is_reserved session_of false f e ≡ true
opening_reserved l start f s m e h step o = ⊎_elim
    (λ (x : (e.session ≡ s.opened + 1) × (m.opened ≡ s.opened + 1)).
    let some : e.session ≢ 0 = λ zero. omega (arith, zero, x.0) in
    let none : under session_of e.session f ≡ [] = fresh l start s f e.session h (omega (arith, x.0)) in
    ap (λ b. cond b true (is_empty (under session_of e.session f))) (ne_eqb e.session 0 some) ∙ ap is_empty none)
    (λ (x : (e.session ≡ 0) × (m.opened ≡ s.opened)). ap (λ b. cond b true (is_empty (under session_of e.session f))) (eq-eqb e.session 0 x.0))
    (opening l s m e.session e.action e.reply o step).1

-- what others add opens no session
stays_by : (l : Limits) (start : State) (f : List Event) (s m : State) (e : Event) (b : Bool) → is_opening e.action ≡ b → is_reserved session_of false f e ≡ false → Replays l start f s → Step l s e m → m.opened ≡ s.opened
stays_by l start f s m e true o un h step = let is = opening_reserved l start f s m e h step o in absurd (let z : true ≡ false = sym is ∙ un in cc)
stays_by l start f s m e false o un h step = (within l s m e.session e.action e.reply o step).same

unreserved : (f rest : List Event) (e : Event) (b : Bool) → is_reserved session_of false f e ≡ b → reserved session_of false (f ++ e ∷ rest) ≡ reserved session_of false f → b ≡ false
unreserved f rest e true is same =
    let own = reserved_own session_of false f e is in
    let on : IsPrefix (reserved session_of false (f ++ e ∷ [])) (reserved session_of false (f ++ e ∷ rest)) =
    subst (λ (x : List Event). IsPrefix (reserved session_of false (f ++ e ∷ [])) (reserved session_of false x)) (append_assoc f (e ∷ []) rest) (reserved_grows session_of false (f ++ e ∷ []) rest) in
    absurd (omega (arith, prefix_length _ _ on, ap length own, length-append (reserved session_of false f) (e ∷ []), ap length same))
unreserved f rest e false is same = refl

pub opened_stays : (l : Limits) (start : State) (f rest : List Event) (s t : State) → Replays l start f s → Replays l s rest t → reserved session_of false (f ++ rest) ≡ reserved session_of false f → t.opened ≡ s.opened
opened_stays l start f [] s t h r same = ap (λ (z : State). z.opened) r
opened_stays l start f (e ∷ rest) s t h r same =
    let un = unreserved f rest e (is_reserved session_of false f e) refl same in
    let on : reserved session_of false ((f ++ e ∷ []) ++ rest) ≡ reserved session_of false (f ++ e ∷ []) =
    ap (reserved session_of false) (append_assoc f (e ∷ []) rest) ∙ (same ∙ sym (reserved_other session_of false f e un)) in
    opened_stays l start (f ++ e ∷ []) rest r.0 t (Replays-push l start f s r.0 e h r.1) r.2 on ∙ stays_by l start f s r.0 e (is_opening e.action) refl un h r.1

-- what was found begins as the callers do
opens_as : (o : Option Origin) (first now : Origin) → o ≡ Some first → ComesFrom (λ old new. new ≡ old) o now → now ≡ first
opens_as None first now e h = absurd h
opens_as (Some x) first now e h = h ∙ cc e

pub enters : (store : SharedStore) (pass held : Caller Event Origin) (core : RecordedStore) (log : Option LogOrigin) → pass.opening ≡ Some (opening_of store) → held ≡ record pass { known = record pass.known { front = core.history } } → OthersAdded session_of false pass.known core.history
    → ComesFrom (λ old new. new ≡ old) pass.opening (record { limits = core.limits; start = core.start; log = log }) → Replays core.limits core.start core.history core.state → Entered store pass held core
enters store pass held core log o h others comes r =
    let same = opens_as pass.opening (opening_of store) (record { limits = core.limits; start = core.start; log = log }) o comes in record {
      opening = o;
      held_is = h;
      others = others;
      limits = ap (λ (c : Origin). c.limits) same;
      start = ap (λ (c : Origin). c.start) same;
      replays = r;
    }

pub enters_with : (store : SharedStore) (pass : Caller Event Origin) (core : RecordedStore) (log : Option LogOrigin) → pass.opening ≡ Some (opening_of store) → ComesFrom (λ old new. new ≡ old) pass.opening (record { limits = core.limits; start = core.start; log = log }) → log ≡ store.log
enters_with store pass core log o comes = ap (λ (c : Origin). c.log) (opens_as pass.opening (opening_of store) (record { limits = core.limits; start = core.start; log = log }) o comes)

-- the history that was found, from the store's start
pub entered_replays : (store : SharedStore) (pass held : Caller Event Origin) (core : RecordedStore) → Entered store pass held core → Replays store.limits store.start core.history core.state
entered_replays store pass held core n =
    subst (λ (s : State). Replays store.limits s core.history core.state) n.start (subst (λ (x : Limits). Replays x core.start core.history core.state) n.limits n.replays)

-- a session's own entry may be added
pub may_own : (store : SharedStore) (pass held : Caller Event Origin) (core next : RecordedStore) (e : Event) → has_number pass.known.numbers e.session ≡ true → Entered store pass held core → TakesStep core next e → MayLeave store held next
may_own store pass held core next e own n t = record {
  pass = pass;
  core = core;
  event = e;
  entered = n;
  takes = t;
  may = inl (subst (λ (h : Caller Event Origin). has_number h.known.numbers e.session ≡ true) (sym n.held_is) own);
}

-- the first caller's own, one that is reserved
pub may_first : (store : SharedStore) (pass held : Caller Event Origin) (core next : RecordedStore) (e : Event) → pass.known.first ≡ true → is_reserved session_of false core.history e ≡ true → Entered store pass held core → TakesStep core next e → MayLeave store held next
may_first store pass held core next e first is n t = record {
  pass = pass;
  core = core;
  event = e;
  entered = n;
  takes = t;
  may = inr (inl (ap (λ h. h.known.first) n.held_is ∙ first, ap (λ h. is_reserved session_of false h.known.front e) n.held_is ∙ is));
}

pub open_reserved : (store : SharedStore) (pass held : Caller Event Origin) (core next : RecordedStore) (e : Event) → is_opening e.action ≡ true → Entered store pass held core → TakesStep core next e → is_reserved session_of false core.history e ≡ true
open_reserved store pass held core next e o n t = opening_reserved core.limits core.start core.history core.state next.state e n.replays t.step o

-- what `leave` asks
pub leaves_entry : (store : SharedStore) (held : Caller Event Origin) (next : RecordedStore) → MayLeave store held next → (x : Event) × (next.history ≡ held.known.front ++ x ∷ []) × MayAdd session_of false held.known x
leaves_entry store held next m = (m.event, m.takes.history ∙ ap (λ (h : List Event). h ++ m.event ∷ []) (sym (ap (λ h. h.known.front) m.entered.held_is)), m.may)

pub leaves_opening : (store : SharedStore) (held : Caller Event Origin) (next : RecordedStore) (log : Option LogOrigin) → MayLeave store held next → log ≡ store.log → ComesFrom (λ old new. new ≡ old) held.opening (record { limits = next.limits; start = next.start; log = log })
leaves_opening store held next log m same =
    let limits : next.limits ≡ store.limits = m.takes.limits ∙ m.entered.limits in
    let start : next.start ≡ store.start = m.takes.start ∙ m.entered.start in
    subst (λ (o : Option Origin). ComesFrom (λ old new. new ≡ old) o (record { limits = next.limits; start = next.start; log = log })) (sym (ap (λ h. h.opening) m.entered.held_is ∙ m.entered.opening)) (rw (limits, start, same) refl)

-- what `leave` gives
pub left : (store : SharedStore) (pass held after : Caller Event Origin) (core next : RecordedStore) (e : Event) → Entered store pass held core → TakesStep core next e
    → ((x : Event) → next.history ≡ held.known.front ++ x ∷ [] → after ≡ record held { known = known_after session_of x next.history held.known; own = held.own ++ x ∷ [] })
    → after ≡ turned_pass pass core.history e
left store pass held after core next e n t given =
    let h : next.history ≡ held.known.front ++ e ∷ [] = t.history ∙ ap (λ (h : List Event). h ++ e ∷ []) (sym (ap (λ h. h.known.front) n.held_is)) in
    given e h
    ∙ (ap (λ (x : Caller Event Origin). record x { known = known_after session_of e next.history x.known; own = x.own ++ e ∷ [] }) n.held_is
    ∙ ap (λ (x : List Event). record pass { known = known_after session_of e x pass.known; own = pass.own ++ e ∷ [] }) t.history)

-- the turn that was taken, from the core that was found
pub turned : (store : SharedStore) (pass held after : Caller Event Origin) (core next : RecordedStore) (e : Event) → Entered store pass held core → TakesStep core next e → after ≡ turned_pass pass core.history e → Turn store pass after e
turned store pass held after core next e n t is = record {
  seen = core.history;
  others = n.others;
  before = core.state;
  replays = entered_replays store pass held core n;
  after = next.state;
  step = subst (λ (x : Limits). Step x core.state e next.state) n.limits t.step;
  caller = is;
}

pub turned_with : (store : SharedStore) (pass held after : Caller Event Origin) (core next : RecordedStore) (e : Event) (P : State → Type 0) → Entered store pass held core → TakesStep core next e → after ≡ turned_pass pass core.history e
    → P core.state → (t : Turn store pass after e) × P t.before
unfolding turned
turned_with store pass held after core next e P n t is p = (turned store pass held after core next e n t is, p)

-- faults that leave the core as it was
pub named_nothing : (f : NamingFault) (old new : RecordedStore) (i : ℕ) (kind : NameKind) (ts : List Term) → f ≡ names.Memory → NamesNone f old new i kind ts → new ≡ old
named_nothing (names.Unknown node) old new i kind ts e h = cc
named_nothing (names.Full n) old new i kind ts e h = cc
named_nothing names.Memory old new i kind ts e h = h

pub opened_nothing : (f : SessionFault) (old new : RecordedStore) → f ≡ sessions.Memory → OpensNone f old new → new ≡ old
opened_nothing sessions.SessionsFull old new e h = cc
opened_nothing sessions.Memory old new e h = h

pub opened_full : (f : SessionFault) (old new : RecordedStore) → f ≡ sessions.SessionsFull → OpensNone f old new → TakesStep old new (record { session = 0; action = actions.Open; reply = replies.SessionsFull })
opened_full sessions.SessionsFull old new e h = h
opened_full sessions.Memory old new e h = cc

-- the caller keeps its number, and stays a session of the store
keeps_numbers : (b c : Bool) (n k : ℕ) (ns : List ℕ) → has_number ns k ≡ true → has_number (cond b ns (cond c ns (n ∷ ns))) k ≡ true
keeps_numbers true c n k ns h = h
keeps_numbers false true n k ns h = h
keeps_numbers false false n k ns h = has_later ns n k h

pub front_is : (store : SharedStore) (old new : Caller Event Origin) (e : Event) (t : Turn store old new e) → new.known.front ≡ t.seen ++ e ∷ []
front_is store old new e t = ap (λ c. c.known.front) t.caller

-- a fact that steps keep, after a turn
pub turned_at : (store : SharedStore) (old new : Caller Event Origin) (e : Event) (P : State → Type 0) → ((s t : State) → More s t → P s → P t) → Turn store old new e → At store old.known.front P → At store new.known.front P
turned_at store old new e P keeps t at =
    let seen : At store t.seen P = subst (λ (x : List Event). At store x P) t.others.begins.1 (still_at store P keeps old.known.front t.others.begins.0 at) in
    subst (λ (x : List Event). At store x P) (sym (front_is store old new e t)) (still_at store P keeps t.seen (e ∷ []) seen)

pub opened_more : (i : ℕ) (s t : State) → More s t → IsOpened s i → IsOpened t i
opened_more i s t m o = (o.0, omega (arith, o.1, m.opened))

pub caller_turned : (store : SharedStore) (i : ℕ) (old new : Caller Event Origin) (e : Event) → IsCaller store i old → Turn store old new e → IsCaller store i new
caller_turned store i old new e c t = record {
  lock = ap (λ c. c.lock) t.caller ∙ c.lock;
  opening = ap (λ c. c.opening) t.caller ∙ c.opening;
  own = subst (λ k. has_number k.known.numbers i ≡ true) (sym t.caller) (keeps_numbers (e.session == 0) (has_number old.known.numbers e.session) e.session i old.known.numbers c.own);
  opened = turned_at store old new e (λ s. IsOpened s i) (λ s t m o. opened_more i s t m o) t c.opened;
}

-- what holds in the turn
pub now_at : (store : SharedStore) (c held : Caller Event Origin) (core : RecordedStore) (P : State → Type 0) → ((s t : State) → More s t → P s → P t) → Entered store c held core → At store c.known.front P → P core.state
now_at store c held core P keeps n at =
    subst (λ (x : List Event). At store x P) n.others.begins.1 (still_at store P keeps c.known.front n.others.begins.0 at)
    core.state (entered_replays store c held core n)

-- in its turn a session stands opened
pub opened_now : (store : SharedStore) (i : ℕ) (c held : Caller Event Origin) (core : RecordedStore) → IsCaller store i c → Entered store c held core → IsOpened core.state i
opened_now store i c held core is n = now_at store c held core (λ s. IsOpened s i) (λ s t m o. opened_more i s t m o) n is.opened
