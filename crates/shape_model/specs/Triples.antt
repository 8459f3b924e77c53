-- Graphs as the triples that stand in them (RDF 1.1 Concepts 3).
use Rattle.std.specs.Prelude.{◌≡◌, ◌⊎◌, List, [], ◌∷◌}
use Rattle.std.specs.List.{Contains}
use Rattle.rdf_model.specs.declared.term.Term.{Term}
use Rattle.rdf_model.specs.declared.term.Term.TheVariants.{Blank, Iri, Literal}
use Rattle.rdf_model.specs.declared.triple.Triple.{Triple}

-- the triple (x, p, y) stands in g: y is a value of p at x (SHACL 1.1)
abbrev pub Has : List Triple → Term → Term → Term → Type 0
Has g x p y = Contains g (record { subject = x; predicate = p; object = y })

-- y is the one value of p at x
abbrev pub HasOnly : List Triple → Term → Term → Term → Type 0
HasOnly g x p y = Has g x p y × ((z : Term) → Has g x p z → z ≡ y)

-- no value of p at x
abbrev pub HasNone : List Triple → Term → Term → Type 0
HasNone g x p = (y : Term) → Has g x p y → ⊥

-- the three kinds of term (RDF 1.1 Concepts 3.1)
abbrev pub IsBlank : Term → Type 0
IsBlank (Blank session number) = Unit {0}
IsBlank (Iri iri) = ⊥
IsBlank (Literal lexical datatype language) = ⊥

abbrev pub IsIri : Term → Type 0
IsIri (Blank session number) = ⊥
IsIri (Iri iri) = Unit {0}
IsIri (Literal lexical datatype language) = ⊥

abbrev pub IsLiteral : Term → Type 0
IsLiteral (Blank session number) = ⊥
IsLiteral (Iri iri) = ⊥
IsLiteral (Literal lexical datatype language) = Unit {0}

-- a term of the list
abbrev pub IsMember : List Term → Term → Type 0
IsMember [] t = ⊥
IsMember (m ∷ ms) t = (m ≡ t) ⊎ IsMember ms t
