-- The properties of the SHACL vocabulary that are read at a shape, by their names.
use Rattle.std.specs.Prelude.{ℕ, List, codes}
use Rattle.rdf_model.specs.declared.term.Term.{Term}
use Rattle.shape_model.specs.Vocabulary.{sh}
use Rattle.shape_properties.specs.declared.property.ShapeProperty.{ShapeProperty}
use Rattle.shape_properties.specs.declared.property.ShapeProperty.TheVariants as properties

abbrev pub local_name : ShapeProperty → List ℕ
local_name properties.Class = codes "class"
local_name properties.Datatype = codes "datatype"
local_name properties.NodeKind = codes "nodeKind"
local_name properties.MinCount = codes "minCount"
local_name properties.MaxCount = codes "maxCount"
local_name properties.MinExclusive = codes "minExclusive"
local_name properties.MinInclusive = codes "minInclusive"
local_name properties.MaxExclusive = codes "maxExclusive"
local_name properties.MaxInclusive = codes "maxInclusive"
local_name properties.MinLength = codes "minLength"
local_name properties.MaxLength = codes "maxLength"
local_name properties.Pattern = codes "pattern"
local_name properties.Flags = codes "flags"
local_name properties.LanguageIn = codes "languageIn"
local_name properties.UniqueLang = codes "uniqueLang"
local_name properties.Equals = codes "equals"
local_name properties.Disjoint = codes "disjoint"
local_name properties.LessThan = codes "lessThan"
local_name properties.LessThanOrEquals = codes "lessThanOrEquals"
local_name properties.Not = codes "not"
local_name properties.And = codes "and"
local_name properties.Or = codes "or"
local_name properties.Xone = codes "xone"
local_name properties.Node = codes "node"
local_name properties.Property = codes "property"
local_name properties.QualifiedValueShape = codes "qualifiedValueShape"
local_name properties.QualifiedMinCount = codes "qualifiedMinCount"
local_name properties.QualifiedMaxCount = codes "qualifiedMaxCount"
local_name properties.QualifiedValueShapesDisjoint = codes "qualifiedValueShapesDisjoint"
local_name properties.Closed = codes "closed"
local_name properties.IgnoredProperties = codes "ignoredProperties"
local_name properties.HasValue = codes "hasValue"
local_name properties.In = codes "in"
local_name properties.TargetNode = codes "targetNode"
local_name properties.TargetClass = codes "targetClass"
local_name properties.TargetSubjectsOf = codes "targetSubjectsOf"
local_name properties.TargetObjectsOf = codes "targetObjectsOf"
local_name properties.Path = codes "path"
local_name properties.Severity = codes "severity"
local_name properties.Message = codes "message"
local_name properties.Deactivated = codes "deactivated"
local_name properties.Sparql = codes "sparql"
local_name properties.Js = codes "js"
local_name properties.Target = codes "target"
local_name properties.Entailment = codes "entailment"

-- the IRI of the property
abbrev pub property_iri : ShapeProperty → Term
property_iri p = sh (local_name p)
