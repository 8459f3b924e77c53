-- How the siblings of a property shape are found (SHACL 4.7.3).
use Rattle.std.specs.Prelude.{◌≡◌, ◌↔◌, List}
use Rattle.std.specs.List.{Contains}
use Rattle.rdf_model.specs.declared.term.Term.{Term}
use Rattle.rdf_model.specs.declared.triple.Triple.{Triple}
use Rattle.shape_model.specs.Triples.{Has}
use Rattle.shape_model.specs.Vocabulary.{ShapeProperty, ShPath, ShProperty, ShQualifiedValueShape, ShQualifiedValueShapesDisjoint, property_iri, true_literal}
use Rattle.shape_model.specs.ShapeSyntax.{HasProperty}

-- the triples with a value of the property at the node
abbrev pub AreValues : List Triple → Term → ShapeProperty → List Triple → Type 0
AreValues s n p own = (t : Triple) → Contains own t ↔ (Contains s t × ((t.subject ≡ n) × (t.predicate ≡ property_iri p)))

-- a triple with sh:property, reversed: from the value to the shape that has it
abbrev pub IsReversed : List Triple → Triple → Type 0
IsReversed s t = (t.predicate ≡ property_iri ShProperty) × Has s t.object t.predicate t.subject

abbrev pub IsReverseOf : Triple → Triple → Type 0
IsReverseOf u t = (u.predicate ≡ property_iri ShProperty) × (t ≡ record { subject = u.object; predicate = u.predicate; object = u.subject })

-- it has a sh:property, by the triple, or by one of the graph
abbrev pub IsParentBy : Triple → Term → Type 0
IsParentBy t n = (t.predicate ≡ property_iri ShProperty) × (t.subject ≡ n)

abbrev pub IsParent : List Triple → Term → Type 0
IsParent s n = (v : Term) × HasProperty s n ShProperty v

-- it may have siblings: a property shape whose sh:qualifiedValueShapesDisjoint is true
abbrev pub MayHaveSiblings : List Triple → Term → Type 0
MayHaveSiblings s shape = ((n : Term) × HasProperty s shape ShPath n) × HasProperty s shape ShQualifiedValueShapesDisjoint true_literal

-- none of its own qualified value shapes
abbrev pub IsForeign : List Triple → Term → Term → Type 0
IsForeign s shape t = HasProperty s shape ShQualifiedValueShape t → ⊥

-- a qualified value shape of the other
abbrev pub IsOfOther : List Triple → Term → Term → Term → Type 0
IsOfOther s shape other t = HasProperty s other ShQualifiedValueShape t × IsForeign s shape t

-- of a sh:property of the parent
abbrev pub IsUnder : List Triple → Term → Term → Term → Type 0
IsUnder s shape parent t = (other : Term) × HasProperty s parent ShProperty other × IsOfOther s shape other t

-- of a sh:property of a shape that has it as a sh:property
abbrev pub IsBeside : List Triple → Term → Term → Type 0
IsBeside s shape t = (parent : Term) × HasProperty s parent ShProperty shape × IsUnder s shape parent t

-- a sh:property of the parent that may have siblings
abbrev pub IsDisjointUnder : List Triple → Term → Term → Type 0
IsDisjointUnder s parent a = HasProperty s parent ShProperty a × MayHaveSiblings s a

-- a qualified value shape of a sh:property of the parent
abbrev pub IsQualifiedUnder : List Triple → Term → Term → Type 0
IsQualifiedUnder s parent b = (other : Term) × HasProperty s parent ShProperty other × HasProperty s other ShQualifiedValueShape b

-- a may have siblings under the parent, and b is one of them or a qualified value shape of a
abbrev pub AreUnder : List Triple → Term → Term → Term → Type 0
AreUnder s parent a b = IsDisjointUnder s parent a × IsQualifiedUnder s parent b

-- only this shape has it as a sh:property
abbrev pub HasOneParent : List Triple → Term → Term → Type 0
HasOneParent s a parent = HasProperty s parent ShProperty a × ((q : Term) → HasProperty s q ShProperty a → q ≡ parent)

-- and it may have siblings
abbrev pub IsOnlyParent : List Triple → Term → Term → Type 0
IsOnlyParent s a parent = MayHaveSiblings s a × HasOneParent s a parent
