-- Tests of a value node and another term.
use Rattle.std.specs.Prelude.{◌≡◌, ℕ, List}
use Rattle.std.specs.List.{Contains}
use Rattle.rdf_model.specs.declared.term.Term.{Term}
use Rattle.shape_model.specs.declared.component.Component.{Component}
use Rattle.shape_model.specs.declared.component.Component.TheVariants as components
use Rattle.shape_model.specs.TermTests.{HasTag, IsAtMost, IsLess}

-- the value node stands to a value of the other property as the component wants it (SHACL 4.5.3, 4.5.4)
abbrev pub Stands : Component → Term → Term → Type 0
Stands components.LessThan v w = IsLess v w
Stands components.LessThanOrEquals v w = IsAtMost v w
Stands c v w = Unit {0}

-- another term has the language tag, and some other term of the list does
abbrev pub Shares : List ℕ → Term → Term → Type 0
Shares tag v w = (v ≡ w → ⊥) × HasTag tag w

abbrev pub SharesSome : List Term → List ℕ → Term → Type 0
SharesSome terms tag v = (w : Term) × Contains terms w × Shares tag v w
