-- The components of SHACL Core that constraints name.
use Rattle.shape_model.specs.declared.component.Component.{Component}
use Rattle.shape_model.specs.declared.component.Component.TheVariants as components
use Rattle.shape_ast.specs.declared.component.TermComponent.{TermComponent}
use Rattle.shape_ast.specs.declared.component.TermComponent.TheVariants as by_term
use Rattle.shape_ast.specs.declared.component.ListComponent.{ListComponent}
use Rattle.shape_ast.specs.declared.component.ListComponent.TheVariants as by_list
use Rattle.shape_ast.specs.declared.component.ShapeComponent.{ShapeComponent}
use Rattle.shape_ast.specs.declared.component.ShapeComponent.TheVariants as by_shape
use Rattle.shape_ast.specs.declared.component.ShapesComponent.{ShapesComponent}
use Rattle.shape_ast.specs.declared.component.ShapesComponent.TheVariants as by_shapes

abbrev pub term_component : TermComponent → Component
term_component by_term.Class = components.Class
term_component by_term.Datatype = components.Datatype
term_component by_term.NodeKind = components.NodeKind
term_component by_term.MinCount = components.MinCount
term_component by_term.MaxCount = components.MaxCount
term_component by_term.MinExclusive = components.MinExclusive
term_component by_term.MinInclusive = components.MinInclusive
term_component by_term.MaxExclusive = components.MaxExclusive
term_component by_term.MaxInclusive = components.MaxInclusive
term_component by_term.MinLength = components.MinLength
term_component by_term.MaxLength = components.MaxLength
term_component by_term.UniqueLang = components.UniqueLang
term_component by_term.Equals = components.Equals
term_component by_term.Disjoint = components.Disjoint
term_component by_term.LessThan = components.LessThan
term_component by_term.LessThanOrEquals = components.LessThanOrEquals
term_component by_term.QualifiedMinCount = components.QualifiedMinCount
term_component by_term.QualifiedMaxCount = components.QualifiedMaxCount
term_component by_term.Closed = components.Closed
term_component by_term.HasValue = components.HasValue

abbrev pub list_component : ListComponent → Component
list_component by_list.LanguageIn = components.LanguageIn
list_component by_list.In = components.In

abbrev pub shape_component : ShapeComponent → Component
shape_component by_shape.Not = components.Not
shape_component by_shape.Node = components.Node

abbrev pub shapes_component : ShapesComponent → Component
shapes_component by_shapes.And = components.And
shapes_component by_shapes.Or = components.Or
shapes_component by_shapes.Xone = components.Xone
