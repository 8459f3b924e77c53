-- Lists, paths and shapes by the triples of a shapes graph.
use Rattle.std.specs.Prelude.{◌≡◌, ◌⊎◌, ℕ, Bool, true, false, List, [], ◌∷◌, codes}
use Rattle.rdf_model.specs.declared.term.Term.{Term}
use Rattle.rdf_model.specs.declared.triple.Triple.{Triple}
use Rattle.shape_model.specs.Vocabulary.{sh, rdf_first, rdf_rest, rdf_nil, ShapeProperty, ShLanguageIn, ShNot, ShAnd, ShOr, ShXone, ShNode, ShProperty, ShQualifiedValueShape, ShIgnoredProperties, ShIn, property_iri, ShTargetNode, ShTargetClass, ShTargetSubjectsOf, ShTargetObjectsOf, ShClass, ShDatatype, ShNodeKind, ShMinCount, ShMaxCount, ShMinExclusive, ShMinInclusive, ShMaxExclusive, ShMaxInclusive, ShMinLength, ShMaxLength, ShPattern, ShFlags, ShUniqueLang, ShEquals, ShDisjoint, ShLessThan, ShLessThanOrEquals, ShQualifiedMinCount, ShQualifiedMaxCount, ShQualifiedValueShapesDisjoint, ShClosed, ShHasValue}
use Rattle.shape_model.specs.Triples.{Has, HasOnly, HasNone, IsBlank, IsIri, IsMember}
use Rattle.shape_model.specs.Paths.{Path, Predicate, Inverse, Sequence, Alternative, ZeroOrMore, OneOrMore, ZeroOrOne, Paths, Last, Also, AreSeveral}
use Rattle.shape_model.specs.Instances.{Instance}

-- v is a value of the property at the node
abbrev pub HasProperty : List Triple → Term → ShapeProperty → Term → Type 0
HasProperty s n p v = Has s n (property_iri p) v

-- Lists (SHACL 1.1, "SHACL Lists"): a node with one rdf:first m and one rdf:rest k
abbrev pub IsCell : List Triple → Term → Term → Term → Type 0
IsCell s n m k = HasOnly s n rdf_first m × HasOnly s n rdf_rest k

-- rdf:nil, with neither
abbrev pub IsListEnd : List Triple → Term → Type 0
IsListEnd s n = (n ≡ rdf_nil) × HasNone s n rdf_first × HasNone s n rdf_rest

-- the node is the head of a list with these members; a circle is no list, since it has no end
abbrev pub ListOf : List Triple → Term → List Term → Type 0
ListOf s n [] = IsListEnd s n
ListOf s n (m ∷ ms) = (k : Term) × IsCell s n m k × ListOf s k ms

-- Paths (SHACL 2.3.1): a blank node that is the subject of exactly one triple, with this property of SHACL
abbrev pub HasAlone : List Triple → Term → List ℕ → Term → Type 0
HasAlone s n name v = IsBlank n × Has s n (sh name) v × ((p w : Term) → Has s n p w → (p ≡ sh name) × (w ≡ v))

-- the node stands for the path (SHACL 2.3.1.1 to 2.3.1.7); one that leads back to itself stands for none
abbrev mutual
  pub PathOf : List Triple → Term → Path → Type 0
  PathOf s n (Predicate p) = (n ≡ p) × IsIri n
  PathOf s n (Inverse p) = (m : Term) × HasAlone s n (codes "inversePath") m × PathOf s m p
  PathOf s n (Sequence ps) = IsBlank n × AreSeveral ps × PathsOf s n ps
  PathOf s n (Alternative ps) = (m : Term) × HasAlone s n (codes "alternativePath") m × AreSeveral ps × PathsOf s m ps
  PathOf s n (ZeroOrMore p) = (m : Term) × HasAlone s n (codes "zeroOrMorePath") m × PathOf s m p
  PathOf s n (OneOrMore p) = (m : Term) × HasAlone s n (codes "oneOrMorePath") m × PathOf s m p
  PathOf s n (ZeroOrOne p) = (m : Term) × HasAlone s n (codes "zeroOrOnePath") m × PathOf s m p

  -- the node is the head of a list of nodes that stand for these paths
  pub PathsOf : List Triple → Term → Paths → Type 0
  PathsOf s n (Last p) = (m : Term) × (k : Term) × IsCell s n m k × IsListEnd s k × PathOf s m p
  PathsOf s n (Also p ps) = (m : Term) × (k : Term) × IsCell s n m k × PathOf s m p × PathsOf s k ps

-- Shapes (SHACL 2.1): the properties that make their subject a shape are the declarations of targets (2.1.3) ..
abbrev pub makes_shape : ShapeProperty → Bool
makes_shape ShTargetNode = true
makes_shape ShTargetClass = true
makes_shape ShTargetSubjectsOf = true
makes_shape ShTargetObjectsOf = true
-- .. and the parameters: those that take a shape, those that take a list of shapes,
makes_shape ShNot = true
makes_shape ShNode = true
makes_shape ShProperty = true
makes_shape ShQualifiedValueShape = true
makes_shape ShAnd = true
makes_shape ShOr = true
makes_shape ShXone = true
-- and the others
makes_shape ShClass = true
makes_shape ShDatatype = true
makes_shape ShNodeKind = true
makes_shape ShMinCount = true
makes_shape ShMaxCount = true
makes_shape ShMinExclusive = true
makes_shape ShMinInclusive = true
makes_shape ShMaxExclusive = true
makes_shape ShMaxInclusive = true
makes_shape ShMinLength = true
makes_shape ShMaxLength = true
makes_shape ShPattern = true
makes_shape ShFlags = true
makes_shape ShLanguageIn = true
makes_shape ShUniqueLang = true
makes_shape ShEquals = true
makes_shape ShDisjoint = true
makes_shape ShLessThan = true
makes_shape ShLessThanOrEquals = true
makes_shape ShQualifiedMinCount = true
makes_shape ShQualifiedMaxCount = true
makes_shape ShQualifiedValueShapesDisjoint = true
makes_shape ShClosed = true
makes_shape ShIgnoredProperties = true
makes_shape ShHasValue = true
makes_shape ShIn = true
makes_shape p = false

abbrev pub MakesShape : ShapeProperty → Type 0
MakesShape p = makes_shape p ≡ true

-- a shape-expecting parameter that takes a shape (SHACL 2.1)
abbrev pub TakesShape : ShapeProperty → Type 0
TakesShape p = (p ≡ ShNot) ⊎ (p ≡ ShNode) ⊎ (p ≡ ShProperty) ⊎ (p ≡ ShQualifiedValueShape)

-- one that takes a list of shapes
abbrev pub TakesShapes : ShapeProperty → Type 0
TakesShapes p = (p ≡ ShAnd) ⊎ (p ≡ ShOr) ⊎ (p ≡ ShXone)

-- a property of which a validation reads the members of its lists (SHACL 4.4.4, 4.6.2 to 4.6.4, 4.8.3)
abbrev pub TakesMembers : ShapeProperty → Type 0
TakesMembers p = (p ≡ ShLanguageIn) ⊎ (p ≡ ShAnd) ⊎ (p ≡ ShOr) ⊎ (p ≡ ShXone) ⊎ (p ≡ ShIn)

-- The node is a shape (SHACL 2.1): an instance of sh:NodeShape or sh:PropertyShape, the subject of a declaration
-- of targets or of a parameter, a value of a shape-expecting parameter, or a member of such a list.
abbrev pub IsShape : List Triple → Term → Type 0
IsShape s n =
    Instance s n (sh (codes "NodeShape"))
    ⊎ Instance s n (sh (codes "PropertyShape"))
    ⊎ ((p : ShapeProperty) × (v : Term) × MakesShape p × HasProperty s n p v)
    ⊎ ((p : ShapeProperty) × (parent : Term) × TakesShape p × HasProperty s parent p n)
    ⊎ ((p : ShapeProperty) × (parent : Term) × (head : Term) × (members : List Term) × TakesShapes p × HasProperty s parent p head × ListOf s head members × IsMember members n)
