-- Which triples a text can give, and that their text gives them.
use Rattle.std.specs.Prelude.{◌≡◌, ℕ, ◌<◌, ◌≤◌, true, List, [], ◌∷◌, ◌++◌, codes, map, take, drop, Some, None, Ok, Err, bytes_eq, ◌⊎◌, ◌↔◌, ◌≢◌}
use Rattle.std.specs.List.{AllByRecursion, list_all, list_any}
use Rattle.std.specs.Str.{IsUtf8, chars}
use Rattle.iri_ref.specs.Scheme.{has_scheme}
use Rattle.rdf_lexical.specs.Characters.{is_iri_char}
use Rattle.rdf_model.specs.declared.term.Term.{Term}
use Rattle.rdf_model.specs.declared.term.Term.TheVariants.{Blank, Iri, Literal}
use Rattle.rdf_model.specs.declared.triple.Triple.{Triple}
use Rattle.rdf_model.specs.NTriples.{term_text}
use Rattle.rdf_model.specs.Terms.{triple_cmp}
use Rattle.collections.specs.Ordered.{IsAscending}
use Rattle.rdf_lexical.specs.Meanings.{lower_case}
use Rattle.rdf_lexical.specs.Productions.{IsLanguageTag}
use Rattle.rdf_lexical.specs.declared.refusal.RefusalKind.{RefusalKind}
use Rattle.rdf_lexical.specs.declared.refusal.RefusalKind.TheVariants.{UnexpectedEnd}
use Rattle.ntriples_text.specs.declared.lexeme.TokenKind.{TokenKind}
use Rattle.ntriples_text.specs.declared.token.Token.{Token}
use Rattle.ntriples_text.specs.declared.token.Token.TheVariants.{TextEnd}
use Rattle.ntriples_text.specs.Tokens.{skipped, token_of, token}
use Rattle.ntriples_text.specs.Productions.{IsTokenAt, HasNoToken, BeginsToken, EndsInEscape}
use Rattle.ntriples_text.specs.declared.statement.Node.TheVariants.{Labelled}
use Rattle.ntriples_text.specs.Grammar.{literal, rdf_lang_string}
use Rattle.ntriples_text.specs.Blanks.{once, term_of}
use Rattle.ntriples_text.specs.Document.{reads, reads_named}
use Rattle.ntriples_text.specs.StoreLabels.{stored_node}
use Rattle.ntriples_text.specs.Writing.{written}

-- an IRI that an IRIREF can hold, with a scheme
abbrev pub IsIriText : List ℕ → Type 0
IsIriText a = IsUtf8 a × (list_all is_iri_char (chars a) ≡ true) × (has_scheme a ≡ true)

-- the characters of a language tag: those of a LANGTAG after its `@`, in lower case
abbrev pub IsTagChars : List ℕ → Type 0
IsTagChars cs = IsLanguageTag (64 ∷ cs) × (map lower_case cs ≡ cs)

-- The triples that a text can give, but for the blank nodes, which are those of a given kind.

-- a subject: an IRI or a blank node
abbrev pub IsReadableSubject : (ℕ → ℕ → Type 0) → Term → Type 0
IsReadableSubject IsNode (Iri a) = IsIriText a
IsReadableSubject IsNode (Blank session number) = IsNode session number
IsReadableSubject IsNode (Literal lexical datatype language) = ⊥

-- a predicate: an IRI
abbrev pub IsReadableIri : Term → Type 0
IsReadableIri (Iri a) = IsIriText a
IsReadableIri (Blank session number) = ⊥
IsReadableIri (Literal lexical datatype language) = ⊥

-- an object: as a subject, or a literal of an allowed datatype or with a tag; its text may have any characters
abbrev pub IsReadableObject : (ℕ → ℕ → Type 0) → Term → Type 0
IsReadableObject IsNode (Iri a) = IsIriText a
IsReadableObject IsNode (Blank session number) = IsNode session number
IsReadableObject IsNode (Literal lexical datatype None) = IsUtf8 lexical × IsIriText datatype × (literal lexical datatype ≡ Ok (Literal lexical datatype None))
IsReadableObject IsNode (Literal lexical datatype (Some tag)) = IsUtf8 lexical × (datatype ≡ rdf_lang_string) × IsUtf8 tag × IsTagChars (chars tag)

pub record IsReadable (IsNode : ℕ → ℕ → Type 0) (t : Triple) : Type 0 where
  pub subject : IsReadableSubject IsNode t.subject
  pub predicate : IsReadableIri t.predicate
  pub object : IsReadableObject IsNode t.object

-- no blank node
abbrev pub IsNone : ℕ → ℕ → Type 0
IsNone session number = ⊥

-- a blank node that a label of the store may name: a session from 1 to 64, and a number below 2^32
abbrev pub IsStored : ℕ → ℕ → Type 0
IsStored session number = (1 ≤ session) × (session ≤ 64) × (1 ≤ number) × (number ≤ 4294967295)

-- one of a session with a number from first up to below next
abbrev pub IsWithin : ℕ → ℕ → ℕ → ℕ → ℕ → Type 0
IsWithin session first next s n = (s ≡ session) × (first ≤ n) × (n < next)

-- Reading what was written gives the same triples. Blank nodes are written as labels, which are numbered anew; so this
-- speaks of triples without them.
abbrev pub ReadsAgain : Type 0
ReadsAgain = (triples : List Triple) (session first : ℕ) → AllByRecursion (IsReadable IsNone) triples → IsAscending triple_cmp triples → reads (written triples) session first ≡ Ok (triples, first)

-- Read by the labels of the store, what was written gives the same triples, blank nodes included.
abbrev pub ReadsNamedAgain : Type 0
ReadsNamedAgain = (triples : List Triple) → AllByRecursion (IsReadable IsStored) triples → IsAscending triple_cmp triples → reads_named (written triples) ≡ Ok triples

-- The triples of a text ascend, and each can stand in one; its blank nodes are the session's, with numbers from first up
-- to below next.
abbrev pub GivesReadable : Type 0
GivesReadable = (bytes : List ℕ) (session first next : ℕ) (triples : List Triple) → reads bytes session first ≡ Ok (triples, next)
    → (first ≤ next) × AllByRecursion (IsReadable (IsWithin session first next)) triples × IsAscending triple_cmp triples

-- two labels of a text are one node only where they are one label
abbrev pub LabelsStayApart : Type 0
LabelsStayApart = (session first : ℕ) (labels : List (List ℕ)) (a b : List ℕ) → list_any (bytes_eq a) labels ≡ true → list_any (bytes_eq b) labels ≡ true
    → term_of session first (once labels) (Labelled a) ≡ term_of session first (once labels) (Labelled b) → a ≡ b

-- A label is that of a blank node of the store exactly where the node is written so.
abbrev pub StoreLabelsAreWritten : Type 0
StoreLabelsAreWritten = (label : List ℕ) (session number : ℕ) → (stored_node label ≡ Some (Blank session number)) ↔ (IsStored session number × (term_text (Blank session number) ≡ codes "_:" ++ label))

-- The tokens by the productions. What is found behind blanks and a comment is the longest token that stands there, and
-- what follows is left; or it is the text's end.
abbrev pub FindsLongest : Type 0
FindsLongest = (text rest : List ℕ) (t : Token) → token text ≡ Ok (t, rest) → ((skipped text ≡ []) × (t ≡ TextEnd) × (rest ≡ []))
    ⊎ ((kind : TokenKind) × (n : ℕ) × IsTokenAt (skipped text) kind n × (t ≡ token_of kind (take n (skipped text))) × (rest ≡ drop n (skipped text)))

-- where a fault is found no token stands
abbrev pub MissesNone : Type 0
MissesNone = (text : List ℕ) (fault : RefusalKind) → token text ≡ Err fault → HasNoToken (skipped text)

-- at most one token stands at the beginning of a text: it has one kind, and so many characters
abbrev pub StandsAlone : Type 0
StandsAlone = (text : List ℕ) (kind other : TokenKind) (n m : ℕ) → IsTokenAt text kind n → IsTokenAt text other m → (kind ≡ other) × (n ≡ m)

-- The text ends too early exactly where something is left, no token stands there, and all of it is the beginning of one or
-- ends within an escape.
abbrev pub EndsEarly : Type 0
EndsEarly = (text : List ℕ) → (token text ≡ Err UnexpectedEnd) ↔ ((skipped text ≢ []) × HasNoToken (skipped text) × (BeginsToken (skipped text) ⊎ EndsInEscape (skipped text)))
