-- What stays of a store when it takes steps.
use Rattle.std.proofs.Common.{◌≡◌, ℕ, ◌+◌, ◌≤◌, List, [], ◌∷◌, sym, subst, arith, length-append, inl, inr}
use Rattle.rdf_model.specs.declared.term.Term.{Term}
use Rattle.store_model.specs.declared.event.Limits.{Limits}
use Rattle.store_model.specs.declared.commit.Transaction.{Transaction}
use Rattle.store_model.specs.declared.event.Event.{Event}
use Rattle.store_model.specs.declared.event.Action.{Action}
use Rattle.store_model.specs.declared.event.NameKind.{NameKind}
use Rattle.store_model.specs.declared.event.Reply.{Reply}
use Rattle.store_model.specs.Store.{State, StepOf, Replays, version, committed, with_named}
use Rattle.store_model.proofs.Outcomes.{outcome}
use Rattle.session_model.proofs.Naming.{IsMore, IsMore-named_with}

-- all sessions stay opened, versions stay versions, and names stay names
pub record More (s t : State) : Type 0 where
  pub opened : s.opened ≤ t.opened
  pub version : version s ≤ version t
  pub named : IsMore s.named t.named

pub more_same : (s t : State) → t ≡ s → More s t
more_same s t e = subst (λ (x : State). More s x) (sym e) (let m : More s s = record { opened = omega arith; version = omega arith; named = λ x h. h } in m)

more_opened : (s : State) → More s (record s { opened = s.opened + 1 })
more_opened s = record { opened = omega arith; version = omega arith; named = λ x h. h }

more_named : (s : State) (kind : NameKind) (ts : List Term) → More s (with_named s kind ts)
more_named s kind ts = record { opened = omega arith; version = omega arith; named = IsMore-named_with s.named ts }

more_committed : (s : State) (x : Transaction) → More s (committed s x)
more_committed s x = let n : version (committed s x) ≡ version s + 1 = length-append s.commits _ in record { opened = omega arith; version = omega (arith, n); named = λ y h. h }

pub more_step : (l : Limits) (s t : State) (i : ℕ) (a : Action) (r : Reply) → StepOf l s i a r t → More s t
more_step l s t i a r h = elim (outcome l s t i a r h) [
  | inl e ↦ more_same s t e.state
  | inr (inl e) ↦ subst (λ (x : State). More s x) (sym e.state) (more_opened s)
  | inr (inr (inl e)) ↦ subst (λ (x : State). More s x) (sym e.state) (more_named s e.kind e.terms)
  | inr (inr (inr (inl e))) ↦ subst (λ (x : State). More s x) (sym e.state) (more_committed s e.transaction)
  | inr (inr (inr (inr e))) ↦ subst (λ (x : State). More s x) (sym e.state) (record { opened = omega arith; version = omega arith; named = λ x h. h })
]

pub more_then : (s t u : State) → More s t → More t u → More s u
more_then s t u p q = record { opened = omega (arith, p.opened, q.opened); version = omega (arith, p.version, q.version); named = λ x h. q.named x (p.named x h) }

pub more_all : (l : Limits) (s t : State) (es : List Event) → Replays l s es t → More s t
more_all l s t [] h = more_same s t h
more_all l s t (e ∷ es) h = more_then s h.0 t (more_step l s h.0 e.session e.action e.reply h.1) (more_all l h.0 t es h.2)
