-- A history after which the store isn't stopped has no place at which its log failed.
use Rattle.std.proofs.Common.{◌≡◌, ◌∙◌, ℕ, suc, Bool, true, false, ◌||◌, cond, List, [], ◌∷◌, Option, Some, None, refl, sym, ap}
use Rattle.std.specs.Option.{option_map}
use Rattle.store_model.specs.declared.event.Event.{Event}
use Rattle.store_model.specs.declared.event.Limits.{Limits}
use Rattle.store_model.specs.Logs.{has_fault, is_fault}
use Rattle.store_model.specs.Store.{State, Replays}
use Rattle.store_model.proofs.Logs.{FaultsStop-holds}
use Rattle.session_laws.specs.Following.{fault_place}

no_place_by : (b rest : Bool) (o : Option ℕ) → (rest ≡ false → o ≡ None) → (b || rest) ≡ false → cond b (Some 0) (option_map suc o) ≡ None
no_place_by true rest o none h = cc
no_place_by false rest o none h = ap (option_map suc) (none h)

no_place : (es : List Event) → has_fault es ≡ false → fault_place es ≡ None
no_place [] h = refl
no_place (e ∷ es) h = no_place_by (is_fault e.reply) (has_fault es) (fault_place es) (no_place es) h

none_of : (a b : Bool) → (a || b) ≡ false → b ≡ false
none_of true b e = cc
none_of false b e = e

pub never_failed : (l : Limits) (s t : State) (es : List Event) → t.stopped ≡ false → Replays l s es t → fault_place es ≡ None
never_failed l s t es on h = no_place es (none_of s.stopped (has_fault es) (sym (FaultsStop-holds l s t es h) ∙ on))
