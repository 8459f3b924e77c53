-- The table of rules (SHACL appendix A): what each property asks for, with the number of the rule that asks it.
use Rattle.std.specs.Prelude.{ℕ, Bool, true, false}
use Rattle.shape_properties.specs.declared.property.ShapeProperty.{ShapeProperty}
use Rattle.shape_properties.specs.declared.property.ShapeProperty.TheVariants as properties
use Rattle.shape_properties.specs.declared.table.Role.{Role}
use Rattle.shape_properties.specs.declared.table.Role.TheVariants as roles
use Rattle.shape_properties.specs.declared.table.Test.{Test}
use Rattle.shape_properties.specs.declared.table.Test.TheVariants as tests
use Rattle.shape_properties.specs.declared.table.RuleTest.{RuleTest}

-- Parameters (SHACL 2.1, sections 4 and 2.1.3): which properties make their subject a shape, and what their values are.
abbrev pub role : ShapeProperty → Role
role properties.Class = roles.Parameter
role properties.Datatype = roles.Parameter
role properties.NodeKind = roles.Parameter
role properties.MinCount = roles.Parameter
role properties.MaxCount = roles.Parameter
role properties.MinExclusive = roles.Parameter
role properties.MinInclusive = roles.Parameter
role properties.MaxExclusive = roles.Parameter
role properties.MaxInclusive = roles.Parameter
role properties.MinLength = roles.Parameter
role properties.MaxLength = roles.Parameter
role properties.Pattern = roles.Parameter
role properties.Flags = roles.Parameter
role properties.LanguageIn = roles.Parameter
role properties.UniqueLang = roles.Parameter
role properties.Equals = roles.Parameter
role properties.Disjoint = roles.Parameter
role properties.LessThan = roles.Parameter
role properties.LessThanOrEquals = roles.Parameter
role properties.Not = roles.ExpectsShape
role properties.And = roles.TakesShapes
role properties.Or = roles.TakesShapes
role properties.Xone = roles.TakesShapes
role properties.Node = roles.ExpectsShape
role properties.Property = roles.ExpectsShape
role properties.QualifiedValueShape = roles.ExpectsShape
role properties.QualifiedMinCount = roles.Parameter
role properties.QualifiedMaxCount = roles.Parameter
role properties.QualifiedValueShapesDisjoint = roles.Parameter
role properties.Closed = roles.Parameter
role properties.IgnoredProperties = roles.Parameter
role properties.HasValue = roles.Parameter
role properties.In = roles.Parameter
role properties.TargetNode = roles.DeclaresTargets
role properties.TargetClass = roles.DeclaresTargets
role properties.TargetSubjectsOf = roles.DeclaresTargets
role properties.TargetObjectsOf = roles.DeclaresTargets
role p = roles.Other

-- rule 1: a shape has one value of these at most
abbrev pub takes_one : ShapeProperty → Bool
takes_one properties.Path = true
takes_one properties.Severity = true
takes_one properties.Deactivated = true
takes_one properties.Datatype = true
takes_one properties.NodeKind = true
takes_one properties.MinCount = true
takes_one properties.MaxCount = true
takes_one properties.MinExclusive = true
takes_one properties.MinInclusive = true
takes_one properties.MaxExclusive = true
takes_one properties.MaxInclusive = true
takes_one properties.MinLength = true
takes_one properties.MaxLength = true
takes_one properties.Pattern = true
takes_one properties.Flags = true
takes_one properties.LanguageIn = true
takes_one properties.UniqueLang = true
takes_one properties.In = true
takes_one properties.Closed = true
takes_one properties.IgnoredProperties = true
takes_one properties.QualifiedValueShape = true
takes_one properties.QualifiedMinCount = true
takes_one properties.QualifiedMaxCount = true
takes_one properties.QualifiedValueShapesDisjoint = true
takes_one p = false

-- rule 17: these stand at property shapes alone
abbrev pub wants_path : ShapeProperty → Bool
wants_path properties.MinCount = true
wants_path properties.MaxCount = true
wants_path properties.UniqueLang = true
wants_path properties.LessThan = true
wants_path properties.LessThanOrEquals = true
wants_path properties.QualifiedValueShape = true
wants_path properties.QualifiedMinCount = true
wants_path properties.QualifiedMaxCount = true
wants_path p = false

-- rule 39: these stand at no node
abbrev pub is_forbidden : ShapeProperty → Bool
is_forbidden properties.Sparql = true
is_forbidden properties.Js = true
is_forbidden properties.Target = true
is_forbidden properties.Entailment = true
is_forbidden p = false

-- by the rule of this number it must pass the test
abbrev pub must : ℕ → Test → RuleTest
must rule test = record { rule = rule; test = test }

abbrev pub nothing : RuleTest
nothing = must 0 tests.Anything

-- rules 2 to 37: what each value of the property must be
abbrev pub of_value : ShapeProperty → RuleTest
of_value properties.TargetNode = must 2 tests.NoBlank
of_value properties.TargetClass = must 3 tests.Iri
of_value properties.TargetSubjectsOf = must 5 tests.Iri
of_value properties.TargetObjectsOf = must 6 tests.Iri
of_value properties.Severity = must 7 tests.Iri
of_value properties.Message = must 8 tests.Message
of_value properties.Deactivated = must 9 tests.TrueOrFalse
of_value properties.Path = must 12 tests.Path
of_value properties.Class = must 13 tests.Iri
of_value properties.Datatype = must 14 tests.Iri
of_value properties.NodeKind = must 15 tests.NodeKind
of_value properties.MinCount = must 16 tests.Integer
of_value properties.MaxCount = must 16 tests.Integer
of_value properties.MinExclusive = must 18 tests.Literal
of_value properties.MinInclusive = must 18 tests.Literal
of_value properties.MaxExclusive = must 18 tests.Literal
of_value properties.MaxInclusive = must 18 tests.Literal
of_value properties.MinLength = must 19 tests.Integer
of_value properties.MaxLength = must 19 tests.Integer
of_value properties.Pattern = must 20 tests.Text
of_value properties.Flags = must 21 tests.Flags
of_value properties.LanguageIn = must 23 tests.List
of_value properties.In = must 23 tests.List
of_value properties.UniqueLang = must 25 tests.Boolean
of_value properties.Equals = must 26 tests.Iri
of_value properties.Disjoint = must 26 tests.Iri
of_value properties.LessThan = must 27 tests.Iri
of_value properties.LessThanOrEquals = must 27 tests.Iri
of_value properties.Not = must 28 tests.NoLiteral
of_value properties.And = must 29 tests.List
of_value properties.Or = must 29 tests.List
of_value properties.Xone = must 29 tests.List
of_value properties.Node = must 31 tests.NoLiteral
of_value properties.Property = must 32 tests.PropertyShape
of_value properties.QualifiedValueShape = must 33 tests.NoLiteral
of_value properties.QualifiedMinCount = must 34 tests.Integer
of_value properties.QualifiedMaxCount = must 34 tests.Integer
of_value properties.QualifiedValueShapesDisjoint = must 35 tests.Boolean
of_value properties.Closed = must 36 tests.Boolean
of_value properties.IgnoredProperties = must 37 tests.ListOfIris
of_value p = nothing

-- rules 24 and 30: what each member of a list that is a value of the property must be
abbrev pub of_member : ShapeProperty → RuleTest
of_member properties.LanguageIn = must 24 tests.Text
of_member properties.And = must 30 tests.NoLiteral
of_member properties.Or = must 30 tests.NoLiteral
of_member properties.Xone = must 30 tests.NoLiteral
of_member p = nothing
