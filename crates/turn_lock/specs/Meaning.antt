-- What a type of states says of its values.
use Rattle.std.specs.Prelude.{ℕ, Bool, List, Option, Some, None}

-- the members of the trait Entries, together
pub record Meaning (S E D : Type 0) : Type 1 where
  pub entries : S → List E
  pub number : E → ℕ
  pub is_zero_shared : Bool
  pub plain : S → D
  pub comes : D → D → Type 0

abbrev pub meaning : {S E D : Type 0} → (S → List E) → (E → ℕ) → Bool → (S → D) → (D → D → Type 0) → Meaning S E D
meaning entries number shared plain comes = record { entries = entries; number = number; is_zero_shared = shared; plain = plain; comes = comes }

-- plain data comes from that of the start, which is known
abbrev pub ComesFrom : {D : Type 0} → (D → D → Type 0) → Option D → D → Type 0
ComesFrom comes None now = ⊥
ComesFrom comes (Some opening) now = comes opening now
