-- Options that hold the one thing of which something holds.
use Rattle.std.proofs.Common.{◌≡◌, Some, None, refl, ap, subst}
use Rattle.std.specs.Prelude.{◌↔◌}

pub only_some : {X : Type 0} → (P : X → Type 0) (y : X) → P y → ((x : X) → P x → y ≡ x) → (x : X) → (Some y ≡ Some x) ↔ P x
only_some P y h only x = (λ e. let d : y ≡ x = cc in subst P d h, λ k. ap Some (only x k))

pub never_some : {X : Type 0} → (P : X → Type 0) → ((x : X) → P x → ⊥) → (x : X) → (None ≡ Some x) ↔ P x
never_some P none x = (λ e. cc, λ k. absurd (none x k))

-- the same of an option that is known
pub some_here : {X : Type 0} → (P : X → Type 0) (y : X) → ((x : X) → (Some y ≡ Some x) ↔ P x) → P y
some_here P y h = (h y).0 refl

pub none_here : {X : Type 0} → (P : X → Type 0) → ((x : X) → (None ≡ Some x) ↔ P x) → (x : X) → P x → ⊥
none_here P h x k = let e = (h x).1 k in cc
