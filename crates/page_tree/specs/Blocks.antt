-- What pages are to contracts: their keys, and their shape.
use Rattle.std.specs.Prelude.{◌≡◌, ◌⊎◌, ℕ, zero, suc, ◌+◌, ◌<◌, ◌≤◌, Option, None, Some, List, [], ◌∷◌, ◌++◌, length, take, drop}
use Rattle.std.specs.declared.cmp.Ordering.{Ordering}
use Rattle.std.specs.declared.cmp.Ordering.TheVariants.{Less, Equal, Greater}
use Rattle.collections.specs.Ordered.{AllAbove, IsAscending}

abbrev pub most : ℕ
most = 32

abbrev pub least : ℕ
least = 8

-- a page: its keys in order, its height over the leaves, and how many keys or pages stand right in it
pub record Image (K : Type 0) : Type 0 where
  pub keys : List K
  pub height : ℕ
  pub width : ℕ

-- a page below another, with its first key
pub record Block (K : Type 0) : Type 0 where
  pub low : K
  pub page : Image K

-- the keys of pages side by side
abbrev pub keys_of : {K : Type 0} → List (Block K) → List K
keys_of [] = []
keys_of (b ∷ bs) = b.page.keys ++ keys_of bs

-- the height of a page over these
abbrev pub height_of : {K : Type 0} → List (Block K) → ℕ
height_of [] = 0
height_of (b ∷ bs) = b.page.height + 1

-- a leaf of these keys
abbrev pub leaf_image : {K : Type 0} → List K → Image K
leaf_image ks = record { keys = ks; height = 0; width = length ks }

-- a page over these
abbrev pub inner_image : {K : Type 0} → List (Block K) → Image K
inner_image bs = record { keys = keys_of bs; height = height_of bs; width = length bs }

abbrev pub first_of : {K : Type 0} → List K → Option K
first_of [] = None
first_of (k ∷ ks) = Some k

abbrev pub second_of : {K : Type 0} → List K → Option K
second_of [] = None
second_of (k ∷ ks) = first_of ks

-- each is of the height below h, is neither too narrow nor too wide, and has its first key beside it
pub record IsBelow {K : Type 0} (h : ℕ) (b : Block K) : Type 0 where
  pub first : first_of b.page.keys ≡ Some b.low
  pub level : b.page.height + 1 ≡ h
  pub narrow : least ≤ b.page.width
  pub wide : b.page.width ≤ most

abbrev pub AreBelow : {K : Type 0} → ℕ → List (Block K) → Type 0
AreBelow h [] = Unit {0}
AreBelow h (b ∷ bs) = IsBelow h b × AreBelow h bs

-- pages that may stand side by side below another, in the order R
pub record AreSound {K : Type 0} (R : K → K → Ordering) (h : ℕ) (bs : List (Block K)) : Type 0 where
  pub ascending : IsAscending R (keys_of bs)
  pub below : AreBelow h bs

-- each has room for one more, and one to spare
abbrev pub AreRoomy : {K : Type 0} → List (Block K) → Type 0
AreRoomy [] = Unit {0}
AreRoomy (b ∷ bs) = ((least < b.page.width) × (b.page.width < most)) × AreRoomy bs

-- pages with these keys that may stand side by side below the height h, each with room for one more and one to spare
pub record IsParted {K : Type 0} (R : K → K → Ordering) (h : ℕ) (keys : List K) (bs : List (Block K)) : Type 0 where
  pub keys_are : keys_of bs ≡ keys
  pub sound : AreSound R h bs
  pub roomy : AreRoomy bs

-- the one or two pages of a pair
abbrev pub pair_blocks : {K : Type 0} → Block K × Option (Block K) → List (Block K)
pair_blocks (a, None) = a ∷ []
pair_blocks (a, Some b) = a ∷ b ∷ []

-- each key of ks is below x
abbrev pub AllUnder : {K : Type 0} → (K → K → Ordering) → K → List K → Type 0
AllUnder R x [] = Unit {0}
AllUnder R x (k ∷ ks) = (R x k ≡ Greater) × AllUnder R x ks

-- x belongs into the i-th page: what stands before is below it, and what stands after above
pub record IsPlace {K : Type 0} (R : K → K → Ordering) (x : K) (bs : List (Block K)) (i : ℕ) : Type 0 where
  pub within : i < length bs
  pub before : AllUnder R x (keys_of (take i bs))
  pub after : AllAbove R x (keys_of (drop (i + 1) bs))

-- x belongs into the i-th of a pair: it is not below the second, or it is
abbrev pub IsSide : {K : Type 0} → (K → K → Ordering) → K → List (Block K) → ℕ → Type 0
IsSide R x [] i = i ≡ 0
IsSide R x (a ∷ []) i = i ≡ 0
IsSide R x (a ∷ b ∷ bs) i = ((i ≡ 0) × (R x b.low ≡ Less)) ⊎ ((i ≡ 1) × (R x b.low ≡ Less → ⊥))

abbrev pub width_at : {K : Type 0} → List (Block K) → ℕ → ℕ
width_at [] i = 0
width_at (b ∷ bs) zero = b.page.width
width_at (b ∷ bs) (suc i) = width_at bs i

-- the key x itself exactly where it comes before low
abbrev pub IsLowFor : {K : Type 0} → (K → K → Ordering) → K → K → Option K → Type 0
IsLowFor R x low None = R x low ≡ Less → ⊥
IsLowFor R x low (Some k) = (k ≡ x) × (R x low ≡ Less)

-- the second key exactly where x ties with the first
abbrev pub IsLowWithout : {K : Type 0} → (K → K → Ordering) → K → Block K → Option K → Type 0
IsLowWithout R x b None = R x b.low ≡ Equal → ⊥
IsLowWithout R x b (Some k) = (R x b.low ≡ Equal) × (second_of b.page.keys ≡ Some k)

-- a leaf, or a page with two pages below it or more
abbrev pub IsRemovable : {K : Type 0} → Image K → Type 0
IsRemovable p = (p.height ≡ 0) ⊎ (2 ≤ p.width)

-- with another first key, if there is one
abbrev pub with_low : {K : Type 0} → Block K → Option K → Block K
with_low b None = b
with_low b (Some k) = record { low = k; page = b.page }

-- a page with these keys, as high as another, not too wide, and narrower by no more than is told
pub record IsAs {K : Type 0} (keys : List K) (fewer : ℕ) (old new : Image K) : Type 0 where
  pub keys_are : new.keys ≡ keys
  pub height_is : new.height ≡ old.height
  pub narrow : old.width ≤ new.width + fewer
  pub wide : new.width ≤ most

-- pages in the place of others: with the same keys, and fewer by no more than is told
pub record AreAs {K : Type 0} (R : K → K → Ordering) (fewer : ℕ) (old new : List (Block K)) : Type 0 where
  pub keys : keys_of new ≡ keys_of old
  pub sound : AreSound R (height_of old) new
  pub many : length old ≤ length new + fewer
  pub few : length new ≤ most
