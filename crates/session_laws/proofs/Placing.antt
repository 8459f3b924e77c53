-- What each kind of step does to the number of sessions.
use Rattle.std.proofs.Common.{◌≡◌, ℕ, ◌+◌, ◌≤◌, Bool, true, false, nat_lt, List, [], ◌∷◌, refl, ap, ◌⊎◌, inl, inr, ⊎_elim, arith}
use Rattle.std.specs.Prelude.{MatchBool}
use Rattle.store_model.specs.declared.event.Limits.{Limits}
use Rattle.store_model.specs.declared.event.Event.{Event}
use Rattle.store_model.specs.declared.event.Action.{Action}
use Rattle.store_model.specs.declared.event.Action.TheVariants.{Open, Begin, Name, Head, Commit, Void}
use Rattle.store_model.specs.declared.event.Reply.{Reply}
use Rattle.store_model.specs.Store.{State, StepOf, Replays, OpensNext, OpensNothing}
use Rattle.session_model.proofs.Walking.{opened_same}
use Rattle.session_laws.specs.Following.{is_opening}

-- an event but an opening stands under a session that was opened before
pub record Within (s t : State) (i : ℕ) : Type 0 where
  pub before : i ≤ s.opened
  pub same : t.opened ≡ s.opened

pub within : (l : Limits) (s t : State) (i : ℕ) (a : Action) (r : Reply) → is_opening a ≡ false → StepOf l s i a r t → Within s t i
within l s t i Open r n h = cc
within l s t i Begin r n h = record { before = h.0.1; same = opened_same l s t i Begin r refl h }
within l s t i (Name kind ts) r n h = record { before = h.0.1; same = opened_same l s t i (Name kind ts) r refl h }
within l s t i Head r n h = record { before = h.0.1; same = opened_same l s t i Head r refl h }
within l s t i (Commit x) r n h = record { before = h.0.1; same = opened_same l s t i (Commit x) r refl h }
within l s t i Void r n h = record { before = h.0; same = opened_same l s t i Void r refl h }

-- an opening stands under the next number, or under 0
opens_at : (s t : State) (i : ℕ) (r : Reply) (b : Bool) → MatchBool b (OpensNext s i r t) (OpensNothing s i r t) → ((i ≡ s.opened + 1) × (t.opened ≡ s.opened + 1)) ⊎ ((i ≡ 0) × (t.opened ≡ s.opened))
opens_at s t i r true h = inl (h.0, ap (λ (x : State). x.opened) h.1.1)
opens_at s t i r false h = inr (h.0, ap (λ (x : State). x.opened) h.1.1)

pub opening : (l : Limits) (s t : State) (i : ℕ) (a : Action) (r : Reply) → is_opening a ≡ true → StepOf l s i a r t → (a ≡ Open) × (((i ≡ s.opened + 1) × (t.opened ≡ s.opened + 1)) ⊎ ((i ≡ 0) × (t.opened ≡ s.opened)))
opening l s t i Open r y h = (refl, opens_at s t i r (nat_lt s.opened 64) h)
opening l s t i Begin r y h = cc
opening l s t i (Name kind ts) r y h = cc
opening l s t i Head r y h = cc
opening l s t i (Commit x) r y h = cc
opening l s t i Void r y h = cc

-- sessions stay opened, and each step stands under one that is
pub record Grows (s t : State) (i : ℕ) : Type 0 where
  pub more : s.opened ≤ t.opened
  pub under : i ≤ t.opened

grows_by : (l : Limits) (s t : State) (i : ℕ) (a : Action) (r : Reply) (b : Bool) → is_opening a ≡ b → StepOf l s i a r t → Grows s t i
grows_by l s t i a r true e h = ⊎_elim
    (λ (o : (i ≡ s.opened + 1) × (t.opened ≡ s.opened + 1)). let p : Grows s t i = record { more = omega (arith, o.1); under = omega (arith, o.0, o.1) } in p)
    (λ (o : (i ≡ 0) × (t.opened ≡ s.opened)). let p : Grows s t i = record { more = omega (arith, o.1); under = omega (arith, o.0) } in p)
    (opening l s t i a r e h).1
grows_by l s t i a r false e h = let w = within l s t i a r e h in record { more = omega (arith, w.same); under = omega (arith, w.before, w.same) }

pub grows : (l : Limits) (s t : State) (i : ℕ) (a : Action) (r : Reply) → StepOf l s i a r t → Grows s t i
grows l s t i a r h = grows_by l s t i a r (is_opening a) refl h

pub grows_all : (l : Limits) (s t : State) (es : List Event) → Replays l s es t → s.opened ≤ t.opened
grows_all l s t [] h = let e : t.opened ≡ s.opened = ap (λ (z : State). z.opened) h in omega (arith, e)
grows_all l s t (e ∷ es) h = let g = grows l s h.0 e.session e.action e.reply h.1 in omega (arith, g.more, grows_all l h.0 t es h.2)
