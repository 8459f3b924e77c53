-- The words of RDF, RDFS and SHACL that a validation reads.
use Rattle.std.specs.Prelude.{ℕ, List, ◌++◌, codes, None}
use Rattle.rdf_model.specs.declared.term.Term.{Term}
use Rattle.rdf_model.specs.declared.term.Term.TheVariants.{Iri, Literal}

-- Words are closed to proofs, so that none rests on their letters.

-- sh: and a local name (SHACL 1.2)
unfoldable pub sh : List ℕ → Term
sh name = Iri (codes "http://www.w3.org/ns/shacl#" ++ name)

-- rdf: and a local name (RDF 1.1 Concepts 1.4)
unfoldable pub rdf : List ℕ → Term
rdf name = Iri (codes "http://www.w3.org/1999/02/22-rdf-syntax-ns#" ++ name)

-- rdf:type (RDFS 3.3)
unfoldable pub rdf_type : Term
rdf_type = rdf (codes "type")

-- rdf:first, rdf:rest and rdf:nil (RDFS 5.2)
unfoldable pub rdf_first : Term
rdf_first = rdf (codes "first")

unfoldable pub rdf_rest : Term
rdf_rest = rdf (codes "rest")

unfoldable pub rdf_nil : Term
rdf_nil = rdf (codes "nil")

-- rdfs:subClassOf (RDFS 3.4)
unfoldable pub sub_class_of : Term
sub_class_of = Iri (codes "http://www.w3.org/2000/01/rdf-schema#subClassOf")

-- rdfs:Class (RDFS 2.2)
unfoldable pub rdfs_class : Term
rdfs_class = Iri (codes "http://www.w3.org/2000/01/rdf-schema#Class")

-- "true"^^xsd:boolean (XSD 1.1 Part 2, 3.3.2)
unfoldable pub true_literal : Term
true_literal = Literal (codes "true") (codes "http://www.w3.org/2001/XMLSchema#boolean") None

-- the IRI of xsd:integer (XSD 1.1 Part 2, 3.4.13)
unfoldable pub xsd_integer : List ℕ
xsd_integer = codes "http://www.w3.org/2001/XMLSchema#integer"

-- a literal of xsd:string (RDF 1.1 Concepts 3.3)
unfoldable pub string_literal : List ℕ → Term
string_literal text = Literal text (codes "http://www.w3.org/2001/XMLSchema#string") None

-- The properties of the SHACL vocabulary that a validation reads at a shape: the parameters of the components
-- (section 4, in its order), sh:deactivated (2.1.6), sh:path (2.3.1) and the declarations of targets (2.1.3).
pub data ShapeProperty : Type 0 where
  ShClass : ShapeProperty
  ShDatatype : ShapeProperty
  ShNodeKind : ShapeProperty
  ShMinCount : ShapeProperty
  ShMaxCount : ShapeProperty
  ShMinExclusive : ShapeProperty
  ShMinInclusive : ShapeProperty
  ShMaxExclusive : ShapeProperty
  ShMaxInclusive : ShapeProperty
  ShMinLength : ShapeProperty
  ShMaxLength : ShapeProperty
  ShPattern : ShapeProperty
  ShFlags : ShapeProperty
  ShLanguageIn : ShapeProperty
  ShUniqueLang : ShapeProperty
  ShEquals : ShapeProperty
  ShDisjoint : ShapeProperty
  ShLessThan : ShapeProperty
  ShLessThanOrEquals : ShapeProperty
  ShNot : ShapeProperty
  ShAnd : ShapeProperty
  ShOr : ShapeProperty
  ShXone : ShapeProperty
  ShNode : ShapeProperty
  ShProperty : ShapeProperty
  ShQualifiedValueShape : ShapeProperty
  ShQualifiedMinCount : ShapeProperty
  ShQualifiedMaxCount : ShapeProperty
  ShQualifiedValueShapesDisjoint : ShapeProperty
  ShClosed : ShapeProperty
  ShIgnoredProperties : ShapeProperty
  ShHasValue : ShapeProperty
  ShIn : ShapeProperty
  ShDeactivated : ShapeProperty
  ShPath : ShapeProperty
  ShTargetNode : ShapeProperty
  ShTargetClass : ShapeProperty
  ShTargetSubjectsOf : ShapeProperty
  ShTargetObjectsOf : ShapeProperty

abbrev pub local_name : ShapeProperty → List ℕ
local_name ShClass = codes "class"
local_name ShDatatype = codes "datatype"
local_name ShNodeKind = codes "nodeKind"
local_name ShMinCount = codes "minCount"
local_name ShMaxCount = codes "maxCount"
local_name ShMinExclusive = codes "minExclusive"
local_name ShMinInclusive = codes "minInclusive"
local_name ShMaxExclusive = codes "maxExclusive"
local_name ShMaxInclusive = codes "maxInclusive"
local_name ShMinLength = codes "minLength"
local_name ShMaxLength = codes "maxLength"
local_name ShPattern = codes "pattern"
local_name ShFlags = codes "flags"
local_name ShLanguageIn = codes "languageIn"
local_name ShUniqueLang = codes "uniqueLang"
local_name ShEquals = codes "equals"
local_name ShDisjoint = codes "disjoint"
local_name ShLessThan = codes "lessThan"
local_name ShLessThanOrEquals = codes "lessThanOrEquals"
local_name ShNot = codes "not"
local_name ShAnd = codes "and"
local_name ShOr = codes "or"
local_name ShXone = codes "xone"
local_name ShNode = codes "node"
local_name ShProperty = codes "property"
local_name ShQualifiedValueShape = codes "qualifiedValueShape"
local_name ShQualifiedMinCount = codes "qualifiedMinCount"
local_name ShQualifiedMaxCount = codes "qualifiedMaxCount"
local_name ShQualifiedValueShapesDisjoint = codes "qualifiedValueShapesDisjoint"
local_name ShClosed = codes "closed"
local_name ShIgnoredProperties = codes "ignoredProperties"
local_name ShHasValue = codes "hasValue"
local_name ShIn = codes "in"
local_name ShDeactivated = codes "deactivated"
local_name ShPath = codes "path"
local_name ShTargetNode = codes "targetNode"
local_name ShTargetClass = codes "targetClass"
local_name ShTargetSubjectsOf = codes "targetSubjectsOf"
local_name ShTargetObjectsOf = codes "targetObjectsOf"

-- the IRI of the property
abbrev pub property_iri : ShapeProperty → Term
property_iri p = sh (local_name p)
