-- What a caller knows of a store stays so when it takes steps.
use Rattle.std.proofs.Common.{◌≡◌, List, [], ◌∷◌, ◌++◌, refl, sym, ◌∙◌, subst}
use Rattle.store_model.specs.declared.event.Limits.{Limits}
use Rattle.store_model.specs.declared.event.Event.{Event}
use Rattle.store_model.specs.Store.{State, Replays}
use Rattle.store_model.proofs.Steps.{ReplyGivesOneState-holds}
use Rattle.session_transaction.proofs.Growing.{More, more_all}
use Rattle.guard_store.specs.Fronts.{SharedStore, At}

pub replays_split : (l : Limits) (s t : State) (a b : List Event) → Replays l s (a ++ b) t → (m : State) × Replays l s a m × Replays l m b t
replays_split l s t [] b h = (s, refl, h)
replays_split l s t (e ∷ a) b h = let r = replays_split l h.0 t a b h.2 in (r.0, (h.0, h.1, r.1), r.2)

pub replays_one : (l : Limits) (s t u : State) (es : List Event) → Replays l s es t → Replays l s es u → u ≡ t
replays_one l s t u [] h k = k ∙ sym h
replays_one l s t u (e ∷ es) h k =
    let same = ReplyGivesOneState-holds l s h.0 k.0 e.session e.action e.reply h.1 k.1 in
    replays_one l h.0 t u es h.2 (subst (λ (x : State). Replays l x es u) same k.2)

-- a fact that steps keep
pub still_at : (store : SharedStore) (P : State → Type 0) → ((s t : State) → More s t → P s → P t) → (a b : List Event) → At store a P → At store (a ++ b) P
still_at store P keeps a b at t h = let r = replays_split store.limits store.start t a b h in keeps r.0 t (more_all store.limits r.0 t b r.2) (at r.0 r.1)

-- a fact of the one state to which the events lead
pub at_this : (store : SharedStore) (P : State → Type 0) (es : List Event) (s : State) → Replays store.limits store.start es s → P s → At store es P
at_this store P es s h p t k = subst P (sym (replays_one store.limits store.start s t es h k)) p
