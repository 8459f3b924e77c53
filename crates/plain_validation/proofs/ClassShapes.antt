-- A class that gives a result is a shape, since it has a parameter (SHACL 2.1).
use Rattle.std.proofs.Common.{List, refl, inl, inr}
use Rattle.rdf_model.specs.declared.term.Term.{Term}
use Rattle.rdf_model.specs.declared.triple.Triple.{Triple}
use Rattle.shape_model.specs.declared.component.Component.{Component}
use Rattle.shape_model.specs.declared.component.Component.TheVariants as components
use Rattle.shape_model.specs.declared.result_row.ResultRow.{ResultRow}
use Rattle.shape_model.specs.Components.{parameter_of}
use Rattle.shape_model.specs.ShapeSyntax.{IsShape, MakesShape}
use Rattle.shape_model.specs.Validation.{At}
use Rattle.shape_model.specs.Vocabulary.{ShProperty}

takes_shape : (c : Component) → MakesShape (parameter_of c)
takes_shape components.Class = refl
takes_shape components.Datatype = refl
takes_shape components.NodeKind = refl
takes_shape components.MinCount = refl
takes_shape components.MaxCount = refl
takes_shape components.MinExclusive = refl
takes_shape components.MinInclusive = refl
takes_shape components.MaxExclusive = refl
takes_shape components.MaxInclusive = refl
takes_shape components.MinLength = refl
takes_shape components.MaxLength = refl
takes_shape components.Pattern = refl
takes_shape components.LanguageIn = refl
takes_shape components.UniqueLang = refl
takes_shape components.Equals = refl
takes_shape components.Disjoint = refl
takes_shape components.LessThan = refl
takes_shape components.LessThanOrEquals = refl
takes_shape components.Not = refl
takes_shape components.And = refl
takes_shape components.Or = refl
takes_shape components.Xone = refl
takes_shape components.Node = refl
takes_shape components.QualifiedMinCount = refl
takes_shape components.QualifiedMaxCount = refl
takes_shape components.Closed = refl
takes_shape components.HasValue = refl
takes_shape components.In = refl

pub gives_result : (g s : List Triple) (n f : Term) (r : ResultRow) → At g s n f r → IsShape s n
gives_result g s n f r a = elim a.1 [
  | inl c ↦ inr (inr (inl (parameter_of c.0, c.1.0, takes_shape c.0, c.1.1)))
  | inr p ↦ inr (inr (inl (ShProperty, p.0, refl, p.1)))
]
