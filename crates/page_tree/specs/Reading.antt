-- What is read of ascending keys.
use Rattle.std.specs.Prelude.{◌≡◌, Bool, ◌&&◌, Option, None, Some, List, [], ◌∷◌, ◌++◌, filter}
use Rattle.std.specs.declared.cmp.Ordering.{Ordering}
use Rattle.std.specs.declared.cmp.Ordering.TheVariants.{Less}
use Rattle.std.specs.Ordering.{MatchOrdering, match_ordering, is_lt, is_gt, is_ge}

-- none of the keys is Less
abbrev pub AllReached : {K : Type 0} → (K → Ordering) → List K → Type 0
AllReached f [] = Unit {0}
AllReached f (k ∷ ks) = (f k ≡ Less → ⊥) × AllReached f ks

-- the keys at which f is Less come first
abbrev pub IsRising : {K : Type 0} → (K → Ordering) → List K → Type 0
IsRising f [] = Unit {0}
IsRising f (k ∷ ks) = MatchOrdering (f k) (IsRising f ks) (AllReached f ks) (AllReached f ks)

-- the first key at which f is not Less
abbrev pub first_reached : {K : Type 0} → (K → Ordering) → List K → Option K
first_reached f [] = None
first_reached f (k ∷ ks) = match_ordering (f k) (first_reached f ks) (Some k) (Some k)

-- whether a key stands from one key up to another, and without that one
abbrev pub is_within : {K : Type 0} → (K → K → Ordering) → K → K → K → Bool
is_within R from to k = is_ge (R k from) && is_lt (R k to)

-- the keys above the one given, and all where none is
abbrev pub keys_above : {K : Type 0} → (K → K → Ordering) → Option K → List K → List K
keys_above R None ks = ks
keys_above R (Some x) ks = filter (λ k. is_gt (R k x)) ks

-- the first keys of a list, and none of them only where there are none
pub record IsRun {K : Type 0} (run keys : List K) : Type 0 where
  pub more : (rest : List K) × (keys ≡ run ++ rest)
  pub none : run ≡ [] → keys ≡ []
