-- Terms and triples as N-Triples 1.1 writes them, in one way: only what must be escaped is.
use Rattle.std.specs.Prelude.{◌==◌, ℕ, List, [], ◌++◌, Option, Some, None, if◌then◌else◌, codes, encode_utf8, nat_eq}
use Rattle.std.specs.List.{flat_map}
use Rattle.std.specs.Str.{chars}
use Rattle.std.specs.Fmt.{decimal}
use lib.Pointwise.{pointwise}
use Rattle.rdf_model.specs.declared.term.Term.{Term}
use Rattle.rdf_model.specs.declared.term.Term.TheVariants.{Blank, Iri, Literal}
use Rattle.rdf_model.specs.declared.triple.Triple.{Triple}

abbrev pub xsd_string : List ℕ
xsd_string = codes "http://www.w3.org/2001/XMLSchema#string"

-- a character within quotes: the quote, the backslash, LF and CR are escaped (N-Triples section 2.3, ECHAR)
abbrev pub escaped : ℕ → List ℕ
escaped c = if c == 34 then codes "\\\"" else (if c == 92 then codes "\\\\" else (if c == 10 then codes "\\n" else (if c == 13 then codes "\\r" else encode_utf8 c)))

abbrev pub quoted : List ℕ → List ℕ
quoted lexical = codes "\"" ++ flat_map escaped (chars lexical) ++ codes "\""

-- what follows the quotes: a language tag, or a datatype other than xsd:string
abbrev pub literal_suffix : List ℕ → Option (List ℕ) → List ℕ
literal_suffix datatype (Some tag) = codes "@" ++ tag
literal_suffix datatype None = if pointwise nat_eq datatype xsd_string then [] else codes "^^<" ++ datatype ++ codes ">"

-- a blank node is `_:s`, its session, `x` and its number
abbrev pub term_text : Term → List ℕ
term_text (Blank session number) = codes "_:s" ++ decimal session ++ codes "x" ++ decimal number
term_text (Iri iri) = codes "<" ++ iri ++ codes ">"
term_text (Literal lexical datatype language) = quoted lexical ++ literal_suffix datatype language

-- subject, predicate, object and the dot, with single spaces
abbrev pub triple_text : Triple → List ℕ
triple_text t = term_text t.subject ++ codes " " ++ term_text t.predicate ++ codes " " ++ term_text t.object ++ codes " ."
