-- Texts of terms and language ranges.
use Rattle.std.specs.Prelude.{ℕ, Bool, true, not, ◌&&◌, ◌==◌, bytes_eq, List, [], ◌∷◌, length, take, drop, codes, Option, Some, None, if◌then◌else◌}
use Rattle.std.specs.Str.{str_eq_ignore_ascii_case}
use Rattle.rdf_model.specs.declared.term.Term.{Term}
use Rattle.rdf_model.specs.declared.term.Term.TheVariants.{Blank, Iri, Literal}

-- STR (SPARQL 1.1, 17.4.2.5): the text of an IRI, the lexical form of a literal
abbrev pub string_value : Term → Option (List ℕ)
string_value (Blank session number) = None
string_value (Iri iri) = Some iri
string_value (Literal lexical datatype language) = Some lexical

-- a subtag ends where the tag ends or `-` follows
abbrev pub ends_subtag : List ℕ → Bool
ends_subtag [] = true
ends_subtag (c ∷ cs) = c == 45

-- basic filtering (RFC 4647, 3.3.1): without regard to ASCII case the range is the tag, or stands
-- before a `-` at its beginning; `*` matches every tag, and no tag is empty
unfoldable pub lang_matches : List ℕ → List ℕ → Bool
lang_matches tag range =
    if bytes_eq range (codes "*") then not (length tag == 0)
    else str_eq_ignore_ascii_case (take (length range) tag) range && ends_subtag (drop (length range) tag)
