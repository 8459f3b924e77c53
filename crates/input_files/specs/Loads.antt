-- Which files were loaded.
use Rattle.std.specs.Prelude.{◌≡◌, ℕ, List, [], ◌∷◌, ◌++◌, take}
use Rattle.outside.specs.Faults.{Refusal}

-- the names that were loaded so far, those whose loads failed, and the patterns of loaded files that were refused
pub record Loads : Type 0 where
  pub loaded : List (List ℕ)
  pub failed : List (List ℕ)
  pub refused : List Refusal

-- the first n of these names were loaded, each once, in order, and no other
abbrev pub LoadsSome : ℕ → List (List ℕ) → Loads → Loads → Type 0
LoadsSome n names before after = after.loaded ≡ before.loaded ++ take n names

abbrev pub LoadsOne : List ℕ → Loads → Loads → Type 0
LoadsOne name before after = after.loaded ≡ before.loaded ++ name ∷ []

-- the first of them, each once, in order
abbrev pub LoadsFirst : List (List ℕ) → Loads → Loads → Type 0
LoadsFirst names before after = (n : ℕ) × LoadsSome n names before after

-- no load failed
abbrev pub NoneFailed : Loads → Loads → Type 0
NoneFailed before after = after.failed ≡ before.failed

-- the load of this name failed, and no other
abbrev pub OnlyFailed : List ℕ → Loads → Loads → Type 0
OnlyFailed name before after = after.failed ≡ before.failed ++ name ∷ []

-- no pattern was refused
abbrev pub NoneRefused : Loads → Loads → Type 0
NoneRefused before after = after.refused ≡ before.refused
