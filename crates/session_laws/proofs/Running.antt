-- Sessions that follow their files run in the history's order.
use Rattle.std.proofs.Common.{◌≡◌, ℕ, zero, suc, ◌+◌, ◌-◌, ◌<◌, ◌≤◌, Bool, true, false, cond, nat_eq, List, [], ◌∷◌, length, map, set, get_or, Option, Some, None, refl, sym, ap, ◌∙◌, subst, ⊎_elim, inl, inr, arith}
use Rattle.std.specs.Prelude.{MatchBool}
use Rattle.std.specs.Option.{option_map}
use Rattle.std.specs.List.{AllByRecursion}
use Rattle.std.proofs.lemmas.List.{length-map, length-set, ext_get_or, get_or-set_other}
use Rattle.std.proofs.lemmas.Grind.{get_or-set_at}
use Rattle.std.proofs.lemmas.Bool.Decides.{nat_tests}
use mathlib.Core.Logic.{dite}
use native.Mathlib.Decide.{ℕ_discrete}
use Rattle.store_model.specs.declared.event.Limits.{Limits}
use Rattle.store_model.specs.declared.event.Event.{Event}
use Rattle.store_model.specs.declared.event.Action.{Action}
use Rattle.store_model.specs.declared.event.Action.TheVariants.{Open}
use Rattle.store_model.specs.declared.event.Reply.{Reply}
use Rattle.store_model.specs.Logs.{is_fault}
use Rattle.store_model.specs.Store.{State, StepOf, Replays}
use Rattle.store_model.proofs.Outcomes.{outcome}
use Rattle.session_model.specs.declared.command.Command.{Command}
use Rattle.session_model.specs.declared.reply.SessionReply.{SessionReply}
use Rattle.session_model.specs.Sessions.{OpenTransaction, SessionState, World, world, up_to_event, no_session, session_at, RunsOpening, RunsEvent, RunsPlace, RunsInOrder, is_first, behind_first}
use Rattle.session_laws.specs.Following.{is_opening, unaided, OwnCommand, OwnEvent, Follows, fault_place, first_state, FollowingRuns}
use Rattle.session_laws.proofs.Aside.{goes_aside}
use Rattle.session_laws.proofs.Placing.{Within, within, opening, grows, grows_all}

-- what an event asks of the session k + 1, which goes from p to q
abbrev Turn : Limits → State → State → ℕ → Action → Reply → List Event → SessionState → SessionState → ℕ → Type 0
Turn l s t i a r es p q k = MatchBool (nat_eq i (k + 1)) (OwnEvent a s r p (λ z. Follows l (k + 1) t es z q)) (Follows l (k + 1) t es p q)

-- the place was run, and each session follows on
record Placed (l : Limits) (s t : State) (i : ℕ) (r : Reply) (es : List Event) (ps qs : List SessionState) : Type 0 where
  pub now : List SessionState
  pub count : length now ≡ length ps
  pub place : RunsPlace l (world s ps) i (is_fault r) (world t now)
  pub each : (k : ℕ) → k < length ps → Follows l (k + 1) t es (get_or now k no_session) (get_or qs k no_session)

apart : {b : Bool} → b ≡ false → b ≡ true → ⊥
apart {b} e f = let no : false ≡ true = sym e ∙ f in cc

stays : (X Y : Type 0) (b c : Bool) → c ≡ true → MatchBool b (MatchBool c X Y) X → X
stays X Y true true e h = h
stays X Y true false e h = cc
stays X Y false c e h = h

is_own : (X Y Z : Type 0) (b c : Bool) → b ≡ true → c ≡ false → MatchBool b (MatchBool c X Y) Z → Y
is_own X Y Z true true e f h = cc
is_own X Y Z true false e f h = h
is_own X Y Z false c e f h = cc

is_others : (X Z : Type 0) (b : Bool) → b ≡ false → MatchBool b X Z → Z
is_others X Z true e h = cc
is_others X Z false e h = h

own_command : (l : Limits) (s t : State) (i : ℕ) (a : Action) (r : Reply) (ps : List SessionState) (w : Option OpenTransaction) (cs : List Command) (replies : List SessionReply) (F : SessionState → Type 0)
    → StepOf l s i a r t → OwnCommand a s r w cs replies F → (z : SessionState) × RunsEvent l (world s ps) i (is_fault r) w cs replies (world t (set ps (i - 1) z)) × F z
own_command l s t i a r ps w [] replies F h o = absurd o
own_command l s t i a r ps w (c ∷ cs) replies F h o = let x = goes_aside l s t i a r w c cs replies o.0 h o.1 in (o.0, (unaided a, x.0, t, o.0, x.1, x.2, refl, x.3), o.2)

placed_opening : (l : Limits) (s t : State) (i : ℕ) (a : Action) (r : Reply) (es : List Event) (ps qs : List SessionState) → is_opening a ≡ true → a ≡ Open → i ≡ s.opened + 1 → i ≤ length ps → StepOf l s i a r t
    → ((k : ℕ) → k < length ps → Turn l s t i a r es (get_or ps k no_session) (get_or qs k no_session) k) → Placed l s t i r es ps qs
placed_opening l s t i a r es ps qs e is at le h each =
    let m : World = world s ps in
    let n : World = world t ps in
    let yes : nat_eq i (s.opened + 1) ≡ true = grind (arith, nat_tests, at) in
    let step : StepOf l s i Open r t = subst (λ (x : Action). StepOf l s i x r t) is h in record {
      now = ps;
      count = refl;
      place = subst (λ (b : Bool). MatchBool b (RunsOpening l m i (is_fault r) n) (RunsEvent l m i (is_fault r) (session_at m i).current (session_at m i).commands (session_at m i).replies n)) (sym yes) (le, (r, t, step, refl, refl));
      each = λ k lt. let p : SessionState = get_or ps k no_session in
          stays (Follows l (k + 1) t es p (get_or qs k no_session)) (OwnCommand a s r p.current p.commands p.replies (λ z. Follows l (k + 1) t es z (get_or qs k no_session))) (nat_eq i (k + 1)) (is_opening a) e (each k lt);
    }

placed_event : (l : Limits) (s t : State) (i : ℕ) (a : Action) (r : Reply) (es : List Event) (ps qs : List SessionState) → is_opening a ≡ false → Within s t i → 0 < i → i ≤ length ps → StepOf l s i a r t
    → ((k : ℕ) → k < length ps → Turn l s t i a r es (get_or ps k no_session) (get_or qs k no_session) k) → Placed l s t i r es ps qs
placed_event l s t i a r es ps qs e w some le h each =
    let j : ℕ = i - 1 in
    let p : SessionState = get_or ps j no_session in
    let lt : j < length ps = omega (arith, some, le) in
    let F : SessionState → Type 0 = λ z. Follows l (j + 1) t es z (get_or qs j no_session) in
    let here : i ≡ j + 1 = omega (arith, some) in
    let mine : nat_eq i (j + 1) ≡ true = grind (arith, nat_tests, here) in
    let own : OwnCommand a s r p.current p.commands p.replies F = is_own (F p) (OwnCommand a s r p.current p.commands p.replies F) (F p) (nat_eq i (j + 1)) (is_opening a) mine e (each j lt) in
    let o = own_command l s t i a r ps p.current p.commands p.replies F h own in
    let m : World = world s ps in
    let n : World = world t (set ps j o.0) in
    let before : i ≤ s.opened = w.before in
    let none : nat_eq i (s.opened + 1) ≡ false = grind (arith, nat_tests, before) in record {
      now = set ps j o.0;
      count = length-set ps j o.0;
      place = subst (λ (b : Bool). MatchBool b (RunsOpening l m i (is_fault r) n) (RunsEvent l m i (is_fault r) (session_at m i).current (session_at m i).commands (session_at m i).replies n)) (sym none) o.1;
      each = λ k lk. dite (ℕ_discrete k j)
          (λ same. subst (λ (z : SessionState). Follows l (k + 1) t es z (get_or qs k no_session)) (sym (get_or-set_at ps j k o.0 no_session same lt))
          (subst (λ (x : ℕ). Follows l (x + 1) t es o.0 (get_or qs x no_session)) (sym same) o.2))
          (λ other.
          let not : nat_eq i (k + 1) ≡ false = grind (arith, nat_tests, here, other) in
          let q : SessionState = get_or ps k no_session in
          subst (λ (z : SessionState). Follows l (k + 1) t es z (get_or qs k no_session)) (sym (get_or-set_other ps j k o.0 no_session other))
          (is_others (OwnEvent a s r q (λ z. Follows l (k + 1) t es z (get_or qs k no_session))) (Follows l (k + 1) t es q (get_or qs k no_session)) (nat_eq i (k + 1)) not (each k lk)));
    }

placed : (l : Limits) (s t : State) (i : ℕ) (a : Action) (r : Reply) (es : List Event) (ps qs : List SessionState) (b : Bool) → is_opening a ≡ b → 0 < i → i ≤ length ps → StepOf l s i a r t
    → ((k : ℕ) → k < length ps → Turn l s t i a r es (get_or ps k no_session) (get_or qs k no_session) k) → Placed l s t i r es ps qs
placed l s t i a r es ps qs true e some le h each = let o = opening l s t i a r e h in ⊎_elim
    (λ (x : (i ≡ s.opened + 1) × (t.opened ≡ s.opened + 1)). placed_opening l s t i a r es ps qs e o.0 x.0 le h each)
    (λ (x : (i ≡ 0) × (t.opened ≡ s.opened)). absurd (omega (arith, x.0, some))) o.1
placed l s t i a r es ps qs false e some le h each = placed_event l s t i a r es ps qs e (within l s t i a r e h) some le h each

-- a store that is stopped stays so, and its log fails no more
stops : (l : Limits) (s t : State) (i : ℕ) (a : Action) (r : Reply) → StepOf l s i a r t → is_fault r ≡ true → t.stopped ≡ true
stops l s t i a r h fails = elim (outcome l s t i a r h) [
  | inl e ↦ absurd (apart e.reply fails)
  | inr (inl e) ↦ absurd (apart (ap is_fault e.reply) fails)
  | inr (inr (inl e)) ↦ absurd (apart (ap is_fault e.reply) fails)
  | inr (inr (inr (inl e))) ↦ absurd (apart (ap is_fault e.reply) fails)
  | inr (inr (inr (inr e))) ↦ ap (λ (x : State). x.stopped) e.state
]

stopped_on : (l : Limits) (s t : State) (i : ℕ) (a : Action) (r : Reply) → StepOf l s i a r t → s.stopped ≡ true → (is_fault r ≡ false) × (t.stopped ≡ true)
stopped_on l s t i a r h is = elim (outcome l s t i a r h) [
  | inl e ↦ (e.reply, ap (λ (x : State). x.stopped) e.state ∙ is)
  | inr (inl e) ↦ (ap is_fault e.reply, ap (λ (x : State). x.stopped) e.state ∙ is)
  | inr (inr (inl e)) ↦ (ap is_fault e.reply, ap (λ (x : State). x.stopped) e.state ∙ is)
  | inr (inr (inr (inl e))) ↦ absurd (apart e.passes.running is)
  | inr (inr (inr (inr e))) ↦ absurd (apart e.passes.running is)
]

none_stopped : (l : Limits) (s t : State) (es : List Event) → s.stopped ≡ true → Replays l s es t → fault_place es ≡ None
none_stopped l s t [] is h = refl
none_stopped l s t (e ∷ es) is h =
    let on = stopped_on l s h.0 e.session e.action e.reply h.1 is in
    ap (λ b. cond b (Some 0) (option_map suc (fault_place es))) on.0 ∙ ap (option_map suc) (none_stopped l h.0 t es on.1 h.2)

-- the place of the fault, from an event on
first_place : (b : Bool) (o : Option ℕ) → is_first (cond b (Some 0) (option_map suc o)) ≡ b
first_place true o = refl
first_place false None = refl
first_place false (Some k) = refl

behind_place : (b : Bool) (o : Option ℕ) → (b ≡ true → o ≡ None) → behind_first (cond b (Some 0) (option_map suc o)) ≡ o
behind_place true o once = sym (once refl)
behind_place false None once = refl
behind_place false (Some k) once = refl

run : (l : Limits) (s t : State) (es : List Event) (ps qs : List SessionState) → Replays l s es t → t.opened ≤ length ps → length qs ≡ length ps → AllByRecursion (λ e. 0 < e.session) es
    → ((k : ℕ) → k < length ps → Follows l (k + 1) s es (get_or ps k no_session) (get_or qs k no_session)) → RunsInOrder l (world s ps) (map (λ e. e.session) es) (fault_place es) (world t qs)
run l s t [] ps qs h le count some each =
    let same : qs ≡ ps = ext_get_or no_session qs ps count (λ k lt. each k (omega (arith, lt, count))) in
    ap (λ (z : State). world z qs) h ∙ ap (world s) same
run l s t (e ∷ es) ps qs h le count some each =
    let g = grows l s h.0 e.session e.action e.reply h.1 in
    let within : e.session ≤ length ps = omega (arith, g.under, grows_all l h.0 t es h.2, le) in
    let p = placed l s h.0 e.session e.action e.reply es ps qs (is_opening e.action) refl some.0 within h.1 (λ k lt. each k lt h.0 h.1) in
    let rest = run l h.0 t es p.now qs h.2 (omega (arith, le, p.count)) (count ∙ sym p.count) some.1 (λ k lt. p.each k (omega (arith, lt, p.count))) in
    let once : is_fault e.reply ≡ true → fault_place es ≡ None = λ fails. none_stopped l h.0 t es (stops l s h.0 e.session e.action e.reply h.1 fails) h.2 in (
      world h.0 p.now,
      subst (λ (b : Bool). RunsPlace l (world s ps) e.session b (world h.0 p.now)) (sym (first_place (is_fault e.reply) (fault_place es))) p.place,
      subst (λ (o : Option ℕ). RunsInOrder l (world h.0 p.now) (map (λ x. x.session) es) o (world t qs)) (sym (behind_place (is_fault e.reply) (fault_place es) once)) rest,
    )

get_or-first : (files : List (List Command)) (k : ℕ) → k < length files → get_or (map (λ cs. up_to_event None cs []) files) k no_session ≡ first_state (get_or files k [])
get_or-first [] k lt = absurd (omega (arith, lt))
get_or-first (f ∷ files) zero lt = refl
get_or-first (f ∷ files) (suc k) lt = get_or-first files k (omega (arith, lt))

pub following_runs : FollowingRuns
following_runs files l s history all f =
    let ps : List SessionState = map (λ cs. up_to_event None cs []) files in
    let count : length ps ≡ length files = length-map files (λ cs. up_to_event None cs []) in (
      record {
        last = world f.state f.last;
        runs = run l s f.state history ps f.last f.replays (omega (arith, f.opened, count)) (f.count ∙ sym count) f.numbered
            (λ k lt. let here : k < length files = omega (arith, lt, count) in
            subst (λ (z : SessionState). Follows l (k + 1) s history z (get_or f.last k no_session)) (sym (get_or-first files k here)) (f.each k here));
        complete = record { opened = f.opened ∙ sym f.count; left = f.left };
        replies = f.replies;
      },
      refl,
    )
