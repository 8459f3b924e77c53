-- What a constraint keeps of a value of a parameter (SHACL section 4), by the property.
use Rattle.shape_properties.specs.declared.property.ShapeProperty.{ShapeProperty}
use Rattle.shape_properties.specs.declared.property.ShapeProperty.TheVariants as properties
use Rattle.shape_ast.specs.declared.component.TermComponent.TheVariants as by_term
use Rattle.shape_ast.specs.declared.component.ListComponent.TheVariants as by_list
use Rattle.shape_ast.specs.declared.component.ShapeComponent.TheVariants as by_shape
use Rattle.shape_ast.specs.declared.component.ShapesComponent.TheVariants as by_shapes
use Rattle.shape_reader.specs.declared.kind.Kind.{Kind}
use Rattle.shape_reader.specs.declared.kind.Kind.TheVariants as kinds

abbrev pub kind : ShapeProperty → Kind
kind properties.Class = kinds.Term by_term.Class
kind properties.Datatype = kinds.Term by_term.Datatype
kind properties.NodeKind = kinds.Term by_term.NodeKind
kind properties.MinCount = kinds.Term by_term.MinCount
kind properties.MaxCount = kinds.Term by_term.MaxCount
kind properties.MinExclusive = kinds.Term by_term.MinExclusive
kind properties.MinInclusive = kinds.Term by_term.MinInclusive
kind properties.MaxExclusive = kinds.Term by_term.MaxExclusive
kind properties.MaxInclusive = kinds.Term by_term.MaxInclusive
kind properties.MinLength = kinds.Term by_term.MinLength
kind properties.MaxLength = kinds.Term by_term.MaxLength
kind properties.LanguageIn = kinds.List by_list.LanguageIn
kind properties.UniqueLang = kinds.Term by_term.UniqueLang
kind properties.Equals = kinds.Term by_term.Equals
kind properties.Disjoint = kinds.Term by_term.Disjoint
kind properties.LessThan = kinds.Term by_term.LessThan
kind properties.LessThanOrEquals = kinds.Term by_term.LessThanOrEquals
kind properties.Not = kinds.Shape by_shape.Not
kind properties.And = kinds.Shapes by_shapes.And
kind properties.Or = kinds.Shapes by_shapes.Or
kind properties.Xone = kinds.Shapes by_shapes.Xone
kind properties.Node = kinds.Shape by_shape.Node
kind properties.QualifiedMinCount = kinds.Term by_term.QualifiedMinCount
kind properties.QualifiedMaxCount = kinds.Term by_term.QualifiedMaxCount
kind properties.Closed = kinds.Term by_term.Closed
kind properties.HasValue = kinds.Term by_term.HasValue
kind properties.In = kinds.List by_list.In
kind p = kinds.Nothing
