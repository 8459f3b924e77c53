-- Nodes by their numbers: what is reached from some of them, in chains, and how lists of nodes and of looks grow.
use Rattle.std.specs.Prelude.{◌≡◌, ◌↔◌, ◌⊎◌, ℕ, List, [], ◌∷◌, ◌++◌}
use Rattle.std.specs.List.{Contains}
use Rattle.std.specs.Ordering.{nat_cmp}
use Rattle.collections.specs.Listings.{IsListing}
use Rattle.rdf_model.specs.declared.look.Look.{Look}

-- from x through the nodes in turn, the last of which is y; where there are none, y is x
abbrev pub NumberChain : (ℕ → ℕ → Type 0) → ℕ → List ℕ → ℕ → Type 0
NumberChain R x [] y = x ≡ y
NumberChain R x (z ∷ zs) y = R x z × NumberChain R z zs y

-- in any number of steps
abbrev pub Repeated : (ℕ → ℕ → Type 0) → ℕ → ℕ → Type 0
Repeated R x y = (zs : List ℕ) × NumberChain R x zs y

-- one of the nodes stands so to y
abbrev pub FromSome : {Y : Type 0} → List ℕ → (ℕ → Y → Type 0) → Y → Type 0
FromSome {Y} xs R y = (x : ℕ) × Contains xs x × R x y

-- the list has what it had and that of which P holds
abbrev pub Adds : {Y : Type 0} → List Y → List Y → (Y → Type 0) → Type 0
Adds {Y} old new P = (y : Y) → Contains new y ↔ (Contains old y ⊎ P y)

-- the nodes of which P holds have come to the end of the list, unless they were there
pub record Enters (old new : List ℕ) (P : ℕ → Type 0) : Type 0 where
  pub more : List ℕ
  pub extended : new ≡ old ++ more
  pub members : Adds old new P
  pub only : (y : ℕ) → Contains more y → P y

-- From the starts, the walks end at just these nodes, each once, ascending, and just their looks have been added.
pub record IsFollowed (starts : List ℕ) (R : ℕ → ℕ → Type 0) (L : ℕ → Look ℕ → Type 0) (old new : List (Look ℕ)) (ends : List ℕ) : Type 0 where
  pub listed : IsListing nat_cmp (FromSome starts R) ends
  pub looks : Adds old new (FromSome starts L)
