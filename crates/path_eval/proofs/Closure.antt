-- A list of nodes that is closed under steps has all that is reached from its nodes.
use Rattle.std.proofs.Common.{ℕ, List, [], ◌∷◌, ◌++◌, take, drop, refl, sym, subst, arith}
use Rattle.std.specs.List.{Contains}
use Rattle.std.proofs.lemmas.List.{take-append-drop}
use Rattle.std.proofs.lemmas.List.Elements.{Contains-append_right}
use Rattle.path_eval.specs.Relations.{NumberChain, Repeated}

pub from_back : {X : Type 0} → (i : ℕ) (xs : List X) (x : X) → Contains (drop i xs) x → Contains xs x
from_back i xs x c = subst (λ l. Contains l x) (take-append-drop i xs) (Contains-append_right (take i xs) (drop i xs) x c)

pub no_start : (x : ℕ) → Contains [] x → ⊥
no_start x c = absurd (omega arith)

module _ (R : ℕ → ℕ → Type 0) where
  pub chain_more : (zs : List ℕ) (x y w : ℕ) → NumberChain R x zs y → R y w → NumberChain R x (zs ++ w ∷ []) w
  chain_more [] x y w c r = (subst (λ (a : ℕ). R a w) (sym c) r, refl)
  chain_more (z ∷ zs) x y w c r = (c.0, chain_more zs z y w c.1 r)

  -- one step more
  pub then_step : (x y w : ℕ) → Repeated R x y → R y w → Repeated R x w
  then_step x y w c r = (c.0 ++ w ∷ [], chain_more c.0 x y w c.1 r)

  pub closed_chain : (ns : List ℕ) → ((x y : ℕ) → Contains ns x → R x y → Contains ns y) → (zs : List ℕ) (x y : ℕ) → Contains ns x → NumberChain R x zs y → Contains ns y
  closed_chain ns closed [] x y i c = subst (λ (a : ℕ). Contains ns a) c i
  closed_chain ns closed (z ∷ zs) x y i c = closed_chain ns closed zs z y (closed x z i c.0) c.1
