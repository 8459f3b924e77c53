-- Chunks of items, side by side.
use Rattle.std.specs.Prelude.{◌≡◌, ℕ, ◌<◌, ◌≤◌, List, [], ◌∷◌, ◌++◌, length, Option, None, Some}

-- the items of a full chunk
abbrev pub full_chunk : ℕ
full_chunk = 64

-- the items of a full block, which has 128 full chunks
abbrev pub full_block : ℕ
full_block = 8192

-- the items of the chunks, in order
abbrev pub all_items : {X : Type 0} → List (List X) → List X
all_items [] = []
all_items (c ∷ cs) = c ++ all_items cs

-- each chunk is full, with n items
abbrev pub AreFull : {X : Type 0} → ℕ → List (List X) → Type 0
AreFull n [] = Unit {0}
AreFull n (c ∷ cs) = (length c ≡ n) × AreFull n cs

-- each chunk but the last is full, and that one has an item
abbrev pub AreChunks : {X : Type 0} → ℕ → List (List X) → Type 0
AreChunks n [] = Unit {0}
AreChunks n (c ∷ []) = (0 < length c) × (length c ≤ n)
AreChunks n (c ∷ d ∷ cs) = (length c ≡ n) × AreChunks n (d ∷ cs)

-- chunks that hold one item more, at the end
pub record HasOneMore {X : Type 0} (n : ℕ) (x : X) (old new : List (List X)) : Type 0 where
  pub chunks : AreChunks n new
  pub items : all_items new ≡ all_items old ++ x ∷ []

-- the items of blocks, where there are any
abbrev pub items_of : {X : Type 0} → Option (List X) → List X
items_of None = []
items_of (Some is) = is
