-- What a set of pages means.
use Rattle.std.specs.Prelude.{◌≡◌, ℕ, List, [], length, Option, None, Some}
use Rattle.std.specs.declared.cmp.Ordering.{Ordering}
use Rattle.collections.specs.Ordered.{IsAscending}
use Rattle.page_tree.specs.Blocks.{Image}

-- the keys below a root, if there is one
abbrev pub root_keys : {K : Type 0} → Option (Image K) → List K
root_keys None = []
root_keys (Some p) = p.keys

-- they ascend, and are as many as is counted
pub record IsRoot {K : Type 0} (R : K → K → Ordering) (len : ℕ) (root : Option (Image K)) : Type 0 where
  pub counted : len ≡ length (root_keys root)
  pub ascending : IsAscending R (root_keys root)
