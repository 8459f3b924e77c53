-- The patterns of compiled shapes, taken out of them with their flags.
use Rattle.std.specs.Prelude.{◌≡◌, ℕ, List, [], ◌∷◌, ◌++◌, Option, Some, MatchOption}
use Rattle.std.specs.Arc.{arc_value}
use Rattle.std.specs.List.{Contains}
use Rattle.rdf_model.specs.declared.term.Term.{Term}
use Rattle.shape_ast.specs.Standing.{HasFlagsText}
use Rattle.shape_ast.specs.declared.pattern.CompiledPattern.{CompiledPattern}
use Rattle.shape_ast.specs.declared.shape.Shape.{Shape}
use Rattle.plain_values.specs.declared.built.BuiltPattern.{BuiltPattern}

-- it has the parameter and the regex of the shape's pattern, and the text of the shape's flags
pub record IsTakenOf (q : CompiledPattern Term) (flags : Option Term) (p : BuiltPattern) : Type 0 where
  pub parameter : p.parameter ≡ q.parameter
  pub regex : arc_value p.regex ≡ arc_value q.regex
  pub flags_text : (text : List ℕ) → HasFlagsText flags text → p.flags ≡ text

abbrev pub IsTaken : Shape Term → BuiltPattern → Type 0
IsTaken s p = (q : CompiledPattern Term) × (s.pattern ≡ Some q) × IsTakenOf q s.flags p

-- one is taken of the shape and added, if the shape has a pattern
abbrev pub Adds : Shape Term → List BuiltPattern → List BuiltPattern → Type 0
Adds s old new = MatchOption s.pattern (new ≡ old) (λ q. (p : BuiltPattern) × IsTakenOf q s.flags p × (new ≡ old ++ p ∷ []))

-- Each of the patterns is taken of one of all shapes, and one is taken of each of the front shapes that has a pattern.
pub record AreTaken (all front : List (Shape Term)) (patterns : List BuiltPattern) : Type 0 where
  pub each : (p : BuiltPattern) → Contains patterns p → (s : Shape Term) × Contains all s × IsTaken s p
  pub one : (s : Shape Term) (q : CompiledPattern Term) → Contains front s → s.pattern ≡ Some q → (p : BuiltPattern) × Contains patterns p × IsTaken s p
