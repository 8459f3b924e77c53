-- Qualified value shapes, and the two halves of a sibling shape (SHACL 4.7.3).
use Rattle.std.specs.Prelude.{ℕ, List}
use Rattle.rdf_model.specs.declared.term.Term.{Term}
use Rattle.rdf_model.specs.declared.triple.Triple.{Triple}
use Rattle.shape_model.specs.declared.component.Component.{Component}
use Rattle.shape_model.specs.declared.component.Component.TheVariants as components
use Rattle.shape_model.specs.Components.{NoneOf}
use Rattle.shape_model.specs.ShapeSyntax.{HasProperty}
use Rattle.shape_model.specs.TermTests.{IsFewer, IsMore}
use Rattle.shape_model.specs.Vocabulary.{true_literal, ShPath, ShProperty, ShQualifiedValueShape, ShQualifiedValueShapesDisjoint}
use Rattle.plain_values.specs.declared.site.ToldRow.{ToldRow}
use Rattle.plain_values.specs.Tests.{Conforming}

-- the shape may have siblings
abbrev pub HasSiblings : List Triple → Term → Type 0
HasSiblings s shape = ((n : Term) × HasProperty s shape ShPath n) × HasProperty s shape ShQualifiedValueShapesDisjoint true_literal

-- a qualified value shape of a property shape beside it, and none of its own
abbrev pub IsCousin : List Triple → Term → Term → Type 0
IsCousin s shape t =
    ((parent : Term) × (other : Term) × HasProperty s parent ShProperty shape × HasProperty s parent ShProperty other × HasProperty s other ShQualifiedValueShape t)
    × (HasProperty s shape ShQualifiedValueShape t → ⊥)

-- a node that conforms to the qualified value shape m and to none of its siblings (SHACL 4.7.3)
abbrev pub MeetsQualified : List ToldRow → Term → List Term → Term → Type 0
MeetsQualified told m siblings v = Conforming told m v × NoneOf (λ k. Conforming told k v) siblings

-- so many qualified value nodes are too few, too many for the count q
abbrev pub IsWrong : Component → Term → ℕ → Type 0
IsWrong components.QualifiedMinCount q n = IsFewer n q
IsWrong components.QualifiedMaxCount q n = IsMore n q
IsWrong c q n = ⊥
