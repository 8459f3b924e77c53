-- What files hold and what a sink took, where they tell it.
use Rattle.std.specs.Prelude.{◌≡◌, ℕ, List, ◌++◌, Option, Some, None, take}

-- the bytes that each name holds, if it holds any
abbrev pub Contents : Type 0
Contents = List ℕ → Option (List ℕ)

-- these are the first bytes of what the name holds, so many as there is room for, where that is told
abbrev pub Loads : Option Contents → List ℕ → ℕ → List ℕ → Type 0
Loads None name room bytes = Unit {0}
Loads (Some held) name room bytes = (all : List ℕ) × (held name ≡ Some all) × (bytes ≡ take room all)

-- what was taken, where it is told, and then more bytes
abbrev pub grown : Option (List ℕ) → List ℕ → Option (List ℕ)
grown None more = None
grown (Some taken) more = Some (taken ++ more)
