-- Walks from number to number: those of the paths of numbers, or of the way back along them.
use Rattle.std.specs.Prelude.{◌≡◌, ◌⊎◌, ℕ, Bool, true, false, not, List, [], ◌∷◌}
use Rattle.rdf_model.specs.declared.ids.Ids.{Ids}
use Rattle.rdf_model.specs.declared.look.Look.{Look}
use Rattle.rdf_model.specs.declared.look.Look.TheVariants.{Out, In}
use Rattle.rdf_model.specs.Numbers.{IsFound}
use Rattle.path_ast.specs.declared.path.Path.{Path, Predicate, Inverse', Sequence', Alternative', ZeroOrMore', OneOrMore', ZeroOrOne', Row_of-Path, end_of-Path, more_of-Path}
use Rattle.path_eval.specs.Relations.{Repeated}

-- the look that finds the values of a predicate at x, or the nodes that have x as value
abbrev pub look_from : Bool → ℕ → ℕ → Look ℕ
look_from false p x = Out x p
look_from true p x = In p x

-- the path joins x to y, or where reversed y to x
abbrev mutual
  pub Reaches : List Ids → Bool → Path ℕ → ℕ → ℕ → Type 0
  Reaches ids reversed (Predicate p) x y = IsFound (look_from reversed p x) ids y
  Reaches ids reversed (Inverse' _ p) x y = Reaches ids (not reversed) p x y
  Reaches ids false (Sequence' _ p _ ps) x y = (z : ℕ) × Reaches ids false p x z × RowOnward ids ps z y
  Reaches ids true (Sequence' _ p _ ps) x y = (z : ℕ) × RowBackward ids ps x z × Reaches ids true p z y
  Reaches ids reversed (Alternative' _ p _ ps) x y = Reaches ids reversed p x y ⊎ RowSome ids reversed ps x y
  Reaches ids reversed (ZeroOrMore' _ p) x y = Repeated (Reaches ids reversed p) x y
  Reaches ids reversed (OneOrMore' _ p) x y = (z : ℕ) × Reaches ids reversed p x z × Repeated (Reaches ids reversed p) z y
  Reaches ids reversed (ZeroOrOne' _ p) x y = (x ≡ y) ⊎ Reaches ids reversed p x y

  -- one after another, from the first to the last and from the last to the first; any of them
  pub RowOnward : List Ids → {m : _} → Row_of-Path ℕ m → ℕ → ℕ → Type 0
  RowOnward ids end_of-Path x y = x ≡ y
  RowOnward ids (more_of-Path p ps) x y = (z : ℕ) × Reaches ids false p x z × RowOnward ids ps z y

  pub RowBackward : List Ids → {m : _} → Row_of-Path ℕ m → ℕ → ℕ → Type 0
  RowBackward ids end_of-Path x y = x ≡ y
  RowBackward ids (more_of-Path p ps) x y = (z : ℕ) × RowBackward ids ps x z × Reaches ids true p z y

  pub RowSome : List Ids → Bool → {m : _} → Row_of-Path ℕ m → ℕ → ℕ → Type 0
  RowSome ids reversed end_of-Path x y = ⊥
  RowSome ids reversed (more_of-Path p ps) x y = Reaches ids reversed p x y ⊎ RowSome ids reversed ps x y

-- the same for lists of paths
abbrev pub Onward : List Ids → List (Path ℕ) → ℕ → ℕ → Type 0
Onward ids [] x y = x ≡ y
Onward ids (p ∷ ps) x y = (z : ℕ) × Reaches ids false p x z × Onward ids ps z y

abbrev pub Backward : List Ids → List (Path ℕ) → ℕ → ℕ → Type 0
Backward ids [] x y = x ≡ y
Backward ids (p ∷ ps) x y = (z : ℕ) × Backward ids ps x z × Reaches ids true p z y

abbrev pub ReachesSome : List Ids → Bool → List (Path ℕ) → ℕ → ℕ → Type 0
ReachesSome ids reversed [] x y = ⊥
ReachesSome ids reversed (p ∷ ps) x y = Reaches ids reversed p x y ⊎ ReachesSome ids reversed ps x y
