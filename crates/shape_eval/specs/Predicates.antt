-- The predicates that a closed shape allows (SHACL 4.8.1), by number.
use Rattle.std.specs.Prelude.{◌≡◌, ℕ, List, Some, slice_get}
use Rattle.std.specs.List.{Contains}
use Rattle.path_ast.specs.declared.path.Path.{Predicate}
use Rattle.shape_ast.specs.declared.shape.Shape.{Shape}

-- the predicate is the path of the shape at the place
abbrev pub IsPathAt : List (Shape ℕ) → ℕ → ℕ → Type 0
IsPathAt shapes n p = (m : Shape ℕ) × (slice_get shapes n ≡ Some m) × (m.path ≡ Some (Predicate p))

abbrev pub IsPathAtSome : List (Shape ℕ) → List ℕ → ℕ → Type 0
IsPathAtSome shapes places p = (n : ℕ) × Contains places n × IsPathAt shapes n p
