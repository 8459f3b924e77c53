-- What the components ask of a term alone.
use Rattle.std.specs.Prelude.{◌≡◌, ◌≢◌, ◌⊎◌, ℕ, ◌^◌, ℤ, pos, int_div, int_lt, true, List, length, chars, Option, Some, None, bytes_eq, codes, if◌then◌else◌}
use Rattle.rdf_model.specs.declared.term.Term.{Term}
use Rattle.rdf_model.specs.declared.term.Term.TheVariants.{Blank, Iri, Literal}
use Rattle.literal_order.specs.Order.{less, less_or_equal}
use Rattle.literal_order.specs.Texts.{lang_matches, string_value}
use Rattle.literal_order.specs.Values.{lexical}
use Rattle.literal_order.specs.declared.literal_value.Lexical.{Lexical}
use Rattle.literal_order.specs.declared.literal_value.Lexical.TheVariants.{IllTyped, Value}
use Rattle.literal_order.specs.declared.literal_value.LiteralValue.TheVariants.{Number}
use Rattle.shape_model.specs.Patterns.{is_found}
use Rattle.shape_model.specs.Triples.{IsMember}
use Rattle.shape_model.specs.Vocabulary.{sh, xsd_integer}

-- the whole number that a value is; values count in units of 10^-18
abbrev pub number_in : Lexical → Option ℤ
number_in (Value (Number n)) = Some (int_div n (pos (10 ^ 18)))
number_in value = None

-- The number of a well-typed literal of xsd:integer (XSD 1.1 Part 2, 3.4.13), as SHACL counts. No other term says one.
unfoldable pub count_of : Term → Option ℤ
count_of (Blank session number) = None
count_of (Iri iri) = None
count_of (Literal text datatype (Some tag)) = None
count_of (Literal text datatype None) = if bytes_eq datatype xsd_integer then number_in (lexical (Literal text datatype None)) else None

-- n is less, is more than the number that q says (SHACL 4.2.1, 4.2.2)
abbrev pub IsFewer : ℕ → Term → Type 0
IsFewer n q = (k : ℤ) × (count_of q ≡ Some k) × (int_lt (pos n) k ≡ true)

abbrev pub IsMore : ℕ → Term → Type 0
IsMore n q = (k : ℤ) × (count_of q ≡ Some k) × (int_lt k (pos n) ≡ true)

-- the term is of the node kind that q names (SHACL 4.1.3)
abbrev pub IsOfKind : Term → Term → Type 0
IsOfKind q (Blank session number) = (q ≡ sh (codes "BlankNode")) ⊎ (q ≡ sh (codes "BlankNodeOrIRI")) ⊎ (q ≡ sh (codes "BlankNodeOrLiteral"))
IsOfKind q (Iri iri) = (q ≡ sh (codes "IRI")) ⊎ (q ≡ sh (codes "BlankNodeOrIRI")) ⊎ (q ≡ sh (codes "IRIOrLiteral"))
IsOfKind q (Literal lexical datatype language) = (q ≡ sh (codes "Literal")) ⊎ (q ≡ sh (codes "BlankNodeOrLiteral")) ⊎ (q ≡ sh (codes "IRIOrLiteral"))

-- a literal of the datatype whose IRI is q, and not ill-typed (SHACL 4.1.2)
abbrev pub IsOfDatatype : Term → Term → Type 0
IsOfDatatype q (Blank session number) = ⊥
IsOfDatatype q (Iri iri) = ⊥
IsOfDatatype q (Literal text datatype language) = (q ≡ Iri datatype) × (lexical (Literal text datatype language) ≢ IllTyped)

-- the comparison of the values of two literals answers, and answers true (SHACL 4.3, 4.5.3 and 4.5.4)
abbrev pub IsLess : Term → Term → Type 0
IsLess a b = less a b ≡ Some true

abbrev pub IsAtMost : Term → Term → Type 0
IsAtMost a b = less_or_equal a b ≡ Some true

-- a term with a text has fewer, has more characters than q says; a blank node has no text (SHACL 4.4.1, 4.4.2)
abbrev pub IsTooShort : Term → Term → Type 0
IsTooShort q v = (string_value v ≡ None) ⊎ ((text : List ℕ) × (string_value v ≡ Some text) × IsFewer (length (chars text)) q)

abbrev pub IsTooLong : Term → Term → Type 0
IsTooLong q v = (string_value v ≡ None) ⊎ ((text : List ℕ) × (string_value v ≡ Some text) × IsMore (length (chars text)) q)

-- the text of a literal or an IRI is matched by the pattern q under the flags (SHACL 4.4.3)
abbrev pub IsMatched : Term → List ℕ → Term → Type 0
IsMatched q flags v = (pattern : List ℕ) × (text : List ℕ) × (string_value q ≡ Some pattern) × (string_value v ≡ Some text) × (is_found pattern flags text ≡ true)

-- the literal has the language tag (RDF 1.1 Concepts 3.3)
abbrev pub HasTag : List ℕ → Term → Type 0
HasTag tag (Blank session number) = ⊥
HasTag tag (Iri iri) = ⊥
HasTag tag (Literal text datatype language) = language ≡ Some tag

-- it has a tag that some of the ranges matches (SHACL 4.4.4)
abbrev pub IsInLanguages : List Term → Term → Type 0
IsInLanguages ranges v = (tag : List ℕ) × (m : Term) × (range : List ℕ) × HasTag tag v × IsMember ranges m × (string_value m ≡ Some range) × (lang_matches tag range ≡ true)
