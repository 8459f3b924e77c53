-- What the rules ask of a term alone.
use Rattle.std.specs.Prelude.{◌≡◌, ◌⊎◌, ℕ, Bool, true, false, ◌&&◌, ◌||◌, List, Some, None, bytes_eq, nat_eq, codes}
use Rattle.std.specs.List.{list_all}
use Rattle.rdf_model.specs.declared.term.Term.{Term}
use Rattle.rdf_model.specs.declared.term.Term.TheVariants.{Blank, Iri, Literal}
use Rattle.literal_order.specs.Values.{lexical}
use Rattle.literal_order.specs.declared.literal_value.Lexical.{Lexical}
use Rattle.literal_order.specs.declared.literal_value.Lexical.TheVariants as lexicals
use Rattle.shape_model.specs.Vocabulary.{sh}

-- the literal stands for a value of its datatype
abbrev pub is_value : Lexical → Bool
is_value lexicals.NotTyped = false
is_value lexicals.IllTyped = false
is_value (lexicals.Value v) = true

abbrev pub is_well_typed : Term → Bool
is_well_typed term = is_value (lexical term)

-- the datatype is this type of XML Schema
abbrev pub has_datatype : List ℕ → Term → Bool
has_datatype iri (Blank session number) = false
has_datatype iri (Iri text) = false
has_datatype iri (Literal text datatype (Some tag)) = false
has_datatype iri (Literal text datatype None) = bytes_eq datatype iri

unfoldable pub xsd_string : List ℕ
xsd_string = codes "http://www.w3.org/2001/XMLSchema#string"

unfoldable pub xsd_integer : List ℕ
xsd_integer = codes "http://www.w3.org/2001/XMLSchema#integer"

unfoldable pub xsd_boolean : List ℕ
xsd_boolean = codes "http://www.w3.org/2001/XMLSchema#boolean"

-- the lexical form of a literal; no other term has one
abbrev pub text_of : Term → List ℕ
text_of (Blank session number) = codes ""
text_of (Iri text) = codes ""
text_of (Literal text datatype language) = text

-- i, s, m, x
abbrev pub is_flag : ℕ → Bool
is_flag c = nat_eq c 105 || nat_eq c 115 || nat_eq c 109 || nat_eq c 120

abbrev pub is_flags : Term → Bool
is_flags t = has_datatype xsd_string t && list_all is_flag (text_of t)

abbrev pub is_tagged : Term → Bool
is_tagged (Blank session number) = false
is_tagged (Iri text) = false
is_tagged (Literal text datatype None) = false
is_tagged (Literal text datatype (Some tag)) = true

-- the six node kinds (SHACL 4.1.3)
abbrev pub IsNodeKind : Term → Type 0
IsNodeKind k =
    (k ≡ sh (codes "BlankNode"))
    ⊎ (k ≡ sh (codes "IRI"))
    ⊎ (k ≡ sh (codes "Literal"))
    ⊎ (k ≡ sh (codes "BlankNodeOrIRI"))
    ⊎ (k ≡ sh (codes "BlankNodeOrLiteral"))
    ⊎ (k ≡ sh (codes "IRIOrLiteral"))
