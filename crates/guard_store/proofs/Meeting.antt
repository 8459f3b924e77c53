-- What a keeper has of its own entries and of the sessions that it met.
use Rattle.std.proofs.Common.{◌≡◌, ◌≢◌, ℕ, ◌+◌, ◌<◌, ◌≤◌, ◌==◌, ◌||◌, Bool, true, false, cond, List, [], ◌∷◌, ◌++◌, refl, sym, ap, ◌∙◌, subst, inl, inr, ⊎_elim, eq-eqb, ne_eqb, nat_lt, ltb-true, append_assoc, arith}
use Rattle.std.proofs.lemmas.List.{append-nil}
use Rattle.std.proofs.lemmas.Bool.Decides.{nat_tests}
use mathlib.Core.List.{IsPrefix}
use mathlib.Core.Logic.{dite}
use native.Mathlib.Decide.{ℕ_discrete}
use Rattle.turn_lock.specs.History.{has_number, is_empty, is_reserved, reserved, reserved_after, under}
use Rattle.turn_lock.specs.Callers.{Caller, kept_caller, met_caller}
use Rattle.turn_lock.proofs.Added.{reserved_own, under_other}
use Rattle.turn_lock.proofs.Numbers.{has_left, has_right, has_without}
use Rattle.store_model.specs.declared.event.Limits.{Limits}
use Rattle.store_model.specs.declared.event.Event.{Event}
use Rattle.store_model.specs.declared.event.Action.TheVariants as actions
use Rattle.store_model.specs.declared.event.Reply.TheVariants as replies
use Rattle.store_model.specs.Store.{State, Step, Replays, IsOpened}
use Rattle.store_model.proofs.Histories.{Replays-push}
use Rattle.session_laws.specs.Following.{is_opening}
use Rattle.session_laws.proofs.Placing.{within, opening}
use Rattle.guard_store.specs.Slots.{Origin}
use Rattle.guard_store.specs.declared.faults.OpenFault.{OpenFault}
use Rattle.guard_store.specs.declared.faults.OpenFault.TheVariants.{SessionsFull, Memory}
use Rattle.guard_store.specs.Fronts.{SharedStore, At, Turn, session_of, void_of}
use Rattle.guard_store.specs.Callers.{IsCaller}
use Rattle.guard_store.specs.Answers.{OpensNot, event_of}
use Rattle.guard_store.specs.Laws.{is_keepers, keepers_entries, HasMet, KeepsEntries, AreOfFault, OpeningsKeepEntries, FailedOpeningsKeepEntries, MeetingsKeepEntries}
use Rattle.guard_store.proofs.Growing.{replays_split, still_at}
use Rattle.guard_store.proofs.Turning.{opening_reserved, front_is, caller_turned, opened_more}
use Rattle.guard_store.proofs.Opening.{open_event, next_number}
use Rattle.guard_store.proofs.Telling.{openings_add_one}

-- a session that was opened since has an entry
opens_by : (l : Limits) (s m : State) (e : Event) (j : ℕ) (b : Bool) → is_opening e.action ≡ b → Step l s e m → s.opened < j → j ≤ m.opened → e.session ≡ j
opens_by l s m e j true o step up le = ⊎_elim
    (λ (x : (e.session ≡ s.opened + 1) × (m.opened ≡ s.opened + 1)). let same : e.session ≡ j = omega (arith, x.0, x.1, up, le) in same)
    (λ (x : (e.session ≡ 0) × (m.opened ≡ s.opened)). absurd (omega (arith, x.1, up, le))) (opening l s m e.session e.action e.reply o step).1
opens_by l s m e j false o step up le = absurd (let w = (within l s m e.session e.action e.reply o step).same in omega (arith, w, up, le))

some_left : (b : Bool) (e : Event) (xs : List Event) → is_empty xs ≡ false → is_empty (cond b (e ∷ xs) xs) ≡ false
some_left true e xs h = refl
some_left false e xs h = h

made_next : (e : Event) (es : List Event) (j : ℕ) (b : Bool) → (b ≡ false → e.session ≡ j) → (b ≡ true → is_empty (under session_of j es) ≡ false) → is_empty (under session_of j (e ∷ es)) ≡ false
made_next e es j true own more = some_left (e.session == j) e (under session_of j es) (more refl)
made_next e es j false own more = ap (λ x. is_empty (cond x (e ∷ under session_of j es) (under session_of j es))) (eq-eqb e.session j (own refl))

opened_made : (l : Limits) (s t : State) (es : List Event) (j : ℕ) → Replays l s es t → s.opened < j → j ≤ t.opened → is_empty (under session_of j es) ≡ false
opened_made l s t [] j h up le = let same : t.opened ≡ s.opened = ap (λ (z : State). z.opened) h in absurd (omega (arith, same, up, le))
opened_made l s t (e ∷ es) j h up le = made_next e es j (nat_lt h.0.opened j)
    (λ no. let here : j ≤ h.0.opened = grind (arith, nat_tests, no) in opens_by l s h.0 e j (is_opening e.action) refl h.1 up here)
    (λ yes. opened_made l h.0 t es j h.2 (ltb-true h.0.opened j yes) le)

-- in a history that replays from a state with no session, the first caller alone makes the openings and the entries under 0
module _ (l : Limits) (start : State) (none : start.opened ≡ 0) where
  reserved_is : (before : List Event) (s t : State) (e : Event) (b : Bool) → is_opening e.action ≡ b → Replays l start before s → Step l s e t → is_reserved session_of false before e ≡ is_keepers e
  reserved_is before s t e true o h step = opening_reserved l start before s t e h step o ∙ sym (ap (λ x. x || e.session == 0) o)
  reserved_is before s t e false o h step = dite (ℕ_discrete e.session 0)
      (λ zero. ap (λ x. cond x true (is_empty (under session_of e.session before))) (eq-eqb e.session 0 zero) ∙ sym (ap (λ x. x || e.session == 0) o ∙ eq-eqb e.session 0 zero))
      (λ other.
      let w = within l s t e.session e.action e.reply o step in
      let some : start.opened < e.session = omega (arith, other, none) in
      let made : is_empty (under session_of e.session before) ≡ false = opened_made l start s before e.session h some w.before in
      ap (λ x. cond x true (is_empty (under session_of e.session before))) (ne_eqb e.session 0 other) ∙ (made ∙ sym (ap (λ x. x || e.session == 0) o ∙ ne_eqb e.session 0 other)))

  reserved_are : (before : List Event) (s t : State) (es : List Event) → Replays l start before s → Replays l s es t → reserved_after session_of false before es ≡ keepers_entries es
  reserved_are before s t [] r h = refl
  reserved_are before s t (e ∷ es) r h =
      let rest : List Event = reserved_after session_of false (before ++ e ∷ []) es in
      ap (λ b. cond b (e ∷ rest) rest) (reserved_is before s h.0 e (is_opening e.action) refl r h.1)
      ∙ ap (λ (xs : List Event). cond (is_keepers e) (e ∷ xs) xs) (reserved_are (before ++ e ∷ []) h.0 t es (Replays-push l start before s h.0 e r h.1) h.2)

  front_reserved : (t : State) (front : List Event) → Replays l start front t → reserved session_of false front ≡ keepers_entries front
  front_reserved t front h = reserved_are [] start t front refl h

keepers_from : (store : SharedStore) (old new more : List Event) → store.start.opened ≡ 0 → IsPrefix old new → reserved session_of false new ≡ reserved session_of false old ++ more → At store new (λ s. keepers_entries new ≡ keepers_entries old ++ more)
keepers_from store old new more none p same t h =
    let l = store.limits in
    let start = store.start in
    let r = replays_split l start t old p.0 (subst (λ (x : List Event). Replays l start x t) (sym p.1) h) in
    sym (front_reserved l start none t new h) ∙ (same ∙ ap (λ (xs : List Event). xs ++ more) (front_reserved l start none r.0 old r.1))

-- what was seen begins what is seen then
turn_begins : (store : SharedStore) (old new : Caller Event Origin) (e : Event) → Turn store old new e → IsPrefix old.known.front new.known.front
turn_begins store old new e t = (
  t.others.begins.0 ++ e ∷ [],
  sym (append_assoc old.known.front t.others.begins.0 (e ∷ [])) ∙ (ap (λ (x : List Event). x ++ e ∷ []) t.others.begins.1 ∙ sym (front_is store old new e t)),
)

-- a session that was opened before the turn
opened_before : (store : SharedStore) (i : ℕ) (old new : Caller Event Origin) (e : Event) → IsCaller store i old → (t : Turn store old new e) → IsOpened t.before i
opened_before store i old new e is t =
    let at : At store (old.known.front ++ t.others.begins.0) (λ s. IsOpened s i) = still_at store (λ s. IsOpened s i) (λ s t m o. opened_more i s t m o) old.known.front t.others.begins.0 is.opened in
    at t.before (subst (λ (x : List Event). Replays store.limits store.start x t.before) (sym t.others.begins.1) t.replays)

-- another's entry adds none to those of a session that was met
met_turned : (store : SharedStore) (i : ℕ) (last : List Event) (old new : Caller Event Origin) (e : Event) → HasMet store old i last → Turn store old new e → e.session ≢ i → HasMet store new i last
met_turned store i last old new e h t other = record {
  caller = caller_turned store i old new e h.caller t;
  entries = ap (under session_of i) (front_is store old new e t) ∙ (under_other session_of i t.seen e other ∙ (t.others.own i h.caller.own ∙ h.entries));
}

kept_from : (store : SharedStore) (i n : ℕ) (last : List Event) (mid : Caller Event Origin) → i ≢ n → HasMet store mid i last → HasMet store (kept_caller n mid) i last
kept_from store i n last mid other h = record {
  caller = record { lock = h.caller.lock; opening = h.caller.opening; own = has_without n i mid.known.numbers other h.caller.own; opened = h.caller.opened };
  entries = h.entries;
}

pub openings_keep_entries : OpeningsKeepEntries
openings_keep_entries store old new s is o =
    let n = s.number in
    let e = open_event n in
    let t = o.opens.turn in
    let front : new.pass.known.front ≡ o.opens.mid.known.front = ap (λ c. c.known.front) o.opens.kept_is in
    let one = openings_add_one store old.pass new.pass s.pass n is.first o.opens in record {
      keepers = keepers_from store old.pass.known.front new.pass.known.front (e ∷ []) is.fresh (subst (IsPrefix old.pass.known.front) (sym front) (turn_begins store old.pass o.opens.mid e t)) one.reserved;
      met = λ i last h.
          let before = opened_before store i old.pass o.opens.mid e h.caller t in
          let here = next_number store.limits t.before t.after n t.step in
          let other : n ≢ i = λ same. omega (arith, same, here.0, before.1) in
          subst (λ (c : Caller Event Origin). HasMet store c i last) (sym o.opens.kept_is) (kept_from store i n last o.opens.mid (λ same. other (sym same)) (met_turned store i last old.pass o.opens.mid e h t other));
    }

zero_keeps : (store : SharedStore) (old new : Caller Event Origin) (e : Event) → store.start.opened ≡ 0 → old.known.first ≡ true → e.session ≡ 0 → Turn store old new e → KeepsEntries store old new (e ∷ [])
zero_keeps store old new e none first zero t =
    let own : is_reserved session_of false t.seen e ≡ true = ap (λ b. cond b true (is_empty (under session_of e.session t.seen))) (eq-eqb e.session 0 zero) in record {
      keepers = keepers_from store old.known.front new.known.front (e ∷ []) none (turn_begins store old new e t)
          (ap (reserved session_of false) (front_is store old new e t) ∙ (reserved_own session_of false t.seen e own ∙ ap (λ (x : List Event). x ++ e ∷ []) (t.others.first first)));
      met = λ i last h.
          let before = opened_before store i old new e h.caller t in
          met_turned store i last old new e h t (λ same. omega (arith, same, zero, before.0));
    }

none_keeps : (store : SharedStore) (old : Caller Event Origin) → KeepsEntries store old old []
none_keeps store old = record { keepers = λ s h. sym (append-nil (keepers_entries old.known.front)); met = λ i last h. h }

fault_keeps : (store : SharedStore) (f : OpenFault) (old new : Caller Event Origin) → store.start.opened ≡ 0 → old.known.first ≡ true → OpensNot f store old new → (more : List Event) × AreOfFault f more × KeepsEntries store old new more
fault_keeps store SessionsFull old new none first t = (event_of 0 actions.Open replies.SessionsFull ∷ [], refl, zero_keeps store old new (event_of 0 actions.Open replies.SessionsFull) none first refl t)
fault_keeps store Memory old new none first t = ⊎_elim
    (λ (same : new ≡ old). let p : (more : List Event) × AreOfFault Memory more × KeepsEntries store old new more = ([], inl refl, subst (λ (c : Caller Event Origin). KeepsEntries store old c []) (sym same) (none_keeps store old)) in p)
    (λ (turn : Turn store old new (void_of 0)). let p : (more : List Event) × AreOfFault Memory more × KeepsEntries store old new more = (void_of 0 ∷ [], inr refl, zero_keeps store old new (void_of 0) none first refl turn) in p) t

pub failed_openings_keep_entries : FailedOpeningsKeepEntries
failed_openings_keep_entries store f old new is o = fault_keeps store f old.pass new.pass is.fresh is.first o.fault

pub meetings_keep_entries : MeetingsKeepEntries
meetings_keep_entries store keeper after session is has e this that =
    let p : after.pass ≡ met_caller keeper.pass session.pass = ap (λ k. k.pass) e in
    let lock = ap (λ c. c.lock) p ∙ is.lock in
    let start = ap (λ c. c.opening) p ∙ is.opening in
    let opens = λ (i : ℕ) (front rest : List Event) (same : front ++ rest ≡ after.pass.known.front) (at : At store front (λ s. IsOpened s i)).
    subst (λ (x : List Event). At store x (λ s. IsOpened s i)) same (still_at store (λ s. IsOpened s i) (λ s t m o. opened_more i s t m o) front rest at) in
    let now : HasMet store after.pass session.number session.pass.known.front = record {
      caller = record {
        lock = lock;
        opening = start;
        own = subst (λ (c : Caller Event Origin). has_number c.known.numbers session.number ≡ true) (sym p) (has_right keeper.pass.known.numbers session.pass.known.numbers session.number has.caller.own);
        opened = opens session.number session.pass.known.front that.begins.0 that.begins.1 has.caller.opened;
      };
      entries = that.own session.number has.caller.own;
    } in
    let keeps : KeepsEntries store keeper.pass after.pass [] = record {
      keepers = keepers_from store keeper.pass.known.front after.pass.known.front [] is.fresh this.begins (this.first is.first ∙ sym (append-nil (reserved session_of false keeper.pass.known.front)));
      met = λ i last h. record {
        caller = record {
          lock = lock;
          opening = start;
          own = subst (λ (c : Caller Event Origin). has_number c.known.numbers i ≡ true) (sym p) (has_left keeper.pass.known.numbers session.pass.known.numbers i h.caller.own);
          opened = opens i keeper.pass.known.front this.begins.0 this.begins.1 h.caller.opened;
        };
        entries = this.own i h.caller.own ∙ h.entries;
      };
    } in
    (now, keeps)
