-- The patterns of a shapes graph, as they are built for its shapes (SHACL 4.4.3).
use Rattle.std.specs.Prelude.{◌≡◌, ◌⊎◌, ℕ, List, [], Some}
use Rattle.std.specs.Arc.{arc_value}
use Rattle.std.specs.List.{Contains}
use Rattle.literal_order.specs.Texts.{string_value}
use Rattle.rdf_model.specs.declared.term.Term.{Term}
use Rattle.rdf_model.specs.declared.triple.Triple.{Triple}
use Rattle.shape_model.specs.declared.component.Component.TheVariants as components
use Rattle.shape_model.specs.declared.result_row.ResultRow.{ResultRow}
use Rattle.shape_model.specs.Components.{found_at}
use Rattle.shape_model.specs.Patterns.{IsPatternOf}
use Rattle.shape_model.specs.Readings.{HasFlags, reading}
use Rattle.shape_model.specs.ShapeSyntax.{HasProperty}
use Rattle.shape_model.specs.TermTests.{IsMatched}
use Rattle.shape_model.specs.Vocabulary.{ShPattern}
use Rattle.plain_values.specs.declared.built.BuiltPattern.{BuiltPattern}
use Rattle.plain_values.specs.Around.{row_at}
use Rattle.plain_values.specs.declared.site.PlainSite.{PlainSite}

-- the regex was built of the parameter's text under the flags
abbrev pub IsBuilt : BuiltPattern → Type 0
IsBuilt p = IsPatternOf p.parameter p.flags (arc_value p.regex)

-- The patterns of the shapes graph are built: each of the list is, and for each shape's value of sh:pattern the list has one under
-- the shape's flags.
pub record ArePatternsOf (s : List Triple) (patterns : List BuiltPattern) : Type 0 where
  pub built : (p : BuiltPattern) → Contains patterns p → IsBuilt p
  pub each : (shape q : Term) (flags : List ℕ) → HasProperty s shape ShPattern q → HasFlags (reading s shape) flags
      → (p : BuiltPattern) × Contains patterns p × (p.parameter ≡ q) × (p.flags ≡ flags)

-- one of the terms has the text; it is the flags of a shape that has the terms as values of sh:flags
abbrev pub HasSomeText : List Term → List ℕ → Type 0
HasSomeText terms text = (q : Term) × Contains terms q × (string_value q ≡ Some text)

abbrev pub AreFlags : List Term → List ℕ → Type 0
AreFlags values flags = HasSomeText values flags ⊎ ((values ≡ []) × (flags ≡ []))

-- the pattern is that of the parameter under these flags, and matches the value
abbrev pub IsAsked : Term → List Term → BuiltPattern → Type 0
IsAsked q values p = (p.parameter ≡ q) × AreFlags values p.flags

abbrev pub Accepts : Term → List Term → Term → BuiltPattern → Type 0
Accepts q values v p = IsAsked q values p × IsMatched p.parameter p.flags v

-- one of the patterns is so
abbrev pub IsAccepted : List BuiltPattern → Term → List Term → Term → Type 0
IsAccepted patterns q values v = (p : BuiltPattern) × Contains patterns p × Accepts q values v p

-- the result about the value node that none accepts
abbrev pub RefusedRow : PlainSite → List BuiltPattern → Term → List Term → Term → ResultRow → Type 0
RefusedRow at patterns q values v r = (IsAccepted patterns q values v → ⊥) × (r ≡ row_at at components.Pattern q (found_at v))
