-- Sets as lists that ascend strictly in an order.
use Rattle.std.specs.Prelude.{◌↔◌, List}
use Rattle.std.specs.List.{Contains}
use Rattle.std.specs.declared.cmp.Ordering.{Ordering}
use Rattle.collections.specs.Ordered.{IsAscending}

-- the list has just the items of which P holds, each once, in order
pub record IsListing {X : Type 0} (R : X → X → Ordering) (P : X → Type 0) (items : List X) : Type 0 where
  pub ascending : IsAscending R items
  pub members : (x : X) → Contains items x ↔ P x

-- what was in the list is in it still
abbrev pub Keeps : {X : Type 0} → List X → List X → Type 0
Keeps old new = (x : _) → Contains old x → Contains new x
