-- What a log's failure leaves, and that without a log a store is never stopped.
use Rattle.std.proofs.Common.{◌≡◌, ℕ, ◌+◌, Bool, true, false, ◌||◌, List, [], ◌∷◌, refl, sym, ap, ◌∙◌, inl, inr}
use Rattle.store_model.specs.declared.event.Action.{Action}
use Rattle.store_model.specs.declared.event.Event.{Event}
use Rattle.store_model.specs.declared.event.Limits.{Limits}
use Rattle.store_model.specs.declared.event.Reply.{Reply}
use Rattle.store_model.specs.declared.event.Reply.TheVariants.{Session, SessionsFull, Version, Named, Unknown, Full, Conflict, FullTriples, Refused, Done, LogFault, Stopped, Nothing}
use Rattle.store_model.specs.Logs.{IsUnlogged, HasNoLog, is_fault, has_fault, FaultsStop, UnloggedRun}
use Rattle.store_model.specs.Store.{State, StepOf}
use Rattle.store_model.proofs.Outcomes.{outcome}

or_false : (a : Bool) → (a || false) ≡ a
or_false true = refl
or_false false = refl

or_true : (a : Bool) → (a || true) ≡ true
or_true true = refl
or_true false = refl

or_group : (a b c : Bool) → ((a || b) || c) ≡ (a || (b || c))
or_group true b c = refl
or_group false b c = refl

goes_on : (s t : State) (r : Reply) → t.stopped ≡ s.stopped → is_fault r ≡ false → t.stopped ≡ (s.stopped || is_fault r)
goes_on s t r e none = e ∙ sym (ap (λ b. s.stopped || b) none ∙ or_false s.stopped)

ends : (s t : State) (r : Reply) → t.stopped ≡ true → is_fault r ≡ true → t.stopped ≡ (s.stopped || is_fault r)
ends s t r e some = e ∙ sym (ap (λ b. s.stopped || b) some ∙ or_true s.stopped)

stopped_by : (l : Limits) (s t : State) (i : ℕ) (a : Action) (r : Reply) → StepOf l s i a r t → t.stopped ≡ (s.stopped || is_fault r)
stopped_by l s t i a r h = elim (outcome l s t i a r h) [
  | inl e ↦ goes_on s t r (ap (λ (x : State). x.stopped) e.state) e.reply
  | inr (inl e) ↦ goes_on s t r (ap (λ (x : State). x.stopped) e.state) (ap is_fault e.reply)
  | inr (inr (inl e)) ↦ goes_on s t r (ap (λ (x : State). x.stopped) e.state) (ap is_fault e.reply)
  | inr (inr (inr (inl e))) ↦ goes_on s t r (ap (λ (x : State). x.stopped) e.state) (ap is_fault e.reply)
  | inr (inr (inr (inr e))) ↦ ends s t r (ap (λ (x : State). x.stopped) e.state) (ap is_fault e.reply)
]

pub FaultsStop-holds : FaultsStop
FaultsStop-holds l s t [] h = ap (λ (x : State). x.stopped) h ∙ sym (or_false s.stopped)
FaultsStop-holds l s t (e ∷ es) h =
    FaultsStop-holds l h.0 t es h.2 ∙ (ap (λ b. b || has_fault es) (stopped_by l s h.0 e.session e.action e.reply h.1) ∙ or_group s.stopped (is_fault e.reply) (has_fault es))

no_fault : (r : Reply) → IsUnlogged r → is_fault r ≡ false
no_fault (Session n) h = refl
no_fault SessionsFull h = refl
no_fault (Version n) h = refl
no_fault Named h = refl
no_fault (Unknown node) h = refl
no_fault (Full n) h = refl
no_fault (Conflict n triple) h = refl
no_fault (FullTriples n) h = refl
no_fault (Refused rows why) h = refl
no_fault (Done n why) h = refl
no_fault LogFault h = absurd h
no_fault (Stopped n) h = refl
no_fault Nothing h = refl

no_faults : (es : List Event) → HasNoLog es → has_fault es ≡ false
no_faults [] h = refl
no_faults (e ∷ es) h = ap (λ b. b || has_fault es) (no_fault e.reply h.0) ∙ no_faults es h.1

pub UnloggedRun-holds : UnloggedRun
UnloggedRun-holds l s t es running none h = FaultsStop-holds l s t es h ∙ (ap (λ b. b || has_fault es) running ∙ no_faults es none)
