-- Parts of shapes by the numbers of their terms among some terms.
use Rattle.std.specs.Prelude.{◌≡◌, ◌<◌, ℕ, List, [], ◌∷◌, length, map, Option, Some, None}
use Rattle.std.specs.Arc.{arc_value}
use Rattle.std.specs.List.{All}
use Rattle.rdf_model.specs.declared.term.Term.{Term}
use Rattle.rdf_model.specs.Numbers.{term_at}
use Rattle.shape_ast.specs.declared.pattern.CompiledPattern.{CompiledPattern}
use Rattle.shape_ast.specs.declared.shape.Shape.{Shape}
use Rattle.shape_ast.specs.Readings.{HoldsOfShape, read_shape}

-- numbers of these terms in turn
pub record IsBoundList (terms items : List Term) (bound : List ℕ) : Type 0 where
  pub in_range : All (λ n. n < length terms) bound
  pub same : map (term_at terms) bound ≡ map (λ t. t) items

-- the pattern of the same parameter, with the same regex
abbrev pub IsBoundPattern : List Term → Option (CompiledPattern Term) → Option (CompiledPattern ℕ) → Type 0
IsBoundPattern terms None None = Unit {0}
IsBoundPattern terms None (Some b) = ⊥
IsBoundPattern terms (Some p) None = ⊥
IsBoundPattern terms (Some p) (Some b) = (b.parameter < length terms) × (term_at terms b.parameter ≡ p.parameter) × (arc_value b.regex ≡ arc_value p.regex)

-- the shape reads the same by the numbers of its terms
pub record IsBoundShape (terms : List Term) (shapes : ℕ) (s : Shape Term) (bound : Shape ℕ) : Type 0 where
  pub in_range : HoldsOfShape (λ n. n < length terms) shapes bound
  pub same : read_shape (term_at terms) bound ≡ read_shape (λ t. t) s
  pub pattern : IsBoundPattern terms s.pattern bound.pattern

-- the shapes in turn do
abbrev pub AreBoundFrom : List Term → ℕ → List (Shape Term) → List (Shape ℕ) → Type 0
AreBoundFrom terms shapes [] [] = Unit {0}
AreBoundFrom terms shapes [] (b ∷ bs) = ⊥
AreBoundFrom terms shapes (s ∷ ss) [] = ⊥
AreBoundFrom terms shapes (s ∷ ss) (b ∷ bs) = IsBoundShape terms shapes s b × AreBoundFrom terms shapes ss bs
