-- The terms that tokens stand for: iri, BlankNode and literal (Turtle 1.1 section 6.5, productions 135s, 137s and 13).
use Rattle.std.specs.Prelude.{ℕ, ◌+◌, List, ◌++◌, drop, Option, Some, None, Ok, encode_utf8_all, if◌then◌else◌, codes, bytes_eq}
use Rattle.rdf_model.specs.declared.term.Term.{Term}
use Rattle.rdf_model.specs.declared.term.Term.TheVariants.{Blank, Literal}
use Rattle.iri_ref.specs.Scheme.{has_scheme}
use Rattle.iri_ref.specs.Resolution.{resolved}
use Rattle.literal_order.specs.Values.{profile}
use Rattle.std.specs.Map.{lookup}
use Rattle.indexmap.specs.IndexMap.{insert_entry}
use Rattle.rdf_lexical.specs.declared.quoting.Quotes.{Quotes}
use Rattle.turtle_lex.specs.declared.token.Token.{Token}
use Rattle.turtle_lex.specs.declared.token.TokenKind.{TokenKind}
use Rattle.turtle_lex.specs.declared.token.TokenKind.TheVariants.{IriRef, PrefixName, PrefixedName}
use Rattle.rdf_lexical.specs.Meanings.{iri_text, string_value, lower_text}
use Rattle.rdf_lexical.specs.Refusals.{kind_of_literal}
use Rattle.turtle_lex.specs.Meanings.{token_text, prefix_part, local_part, local_text}
use Rattle.rdf_lexical.specs.declared.refusal.RefusalKind.{RefusalKind}
use Rattle.rdf_lexical.specs.declared.refusal.RefusalKind.TheVariants.{UnexpectedToken, UndeclaredPrefix, RelativeIri}
use Rattle.turtle_reader.specs.Parsers.{Parser, ◌>>=◌, give, refuse, asking}
use Rattle.turtle_reader.specs.Tokens.{is_language_tag, is_carets, next, where_next}

-- the words of the vocabularies
unfoldable pub rdf : List ℕ → List ℕ
rdf word = codes "http://www.w3.org/1999/02/22-rdf-syntax-ns#" ++ word

unfoldable pub xsd : List ℕ → List ℕ
xsd word = codes "http://www.w3.org/2001/XMLSchema#" ++ word

-- a parser from an answer that may be none
abbrev pub or_refuse : {A : Type 0} → ℕ → RefusalKind → Option A → Parser A
or_refuse line kind (Some x) = give x
or_refuse line kind None = refuse line kind

-- IRI references are resolved against the base, where they have no scheme (section 6.3)
abbrev pub in_base : Option (List ℕ) → List ℕ → Option (List ℕ)
in_base (Some base) reference = Some (resolved base reference)
in_base None reference = if has_scheme reference then Some reference else None

-- IRIREF, whose token has been read
abbrev pub resolved_iri : List ℕ → Token → Parser (List ℕ)
resolved_iri text t = asking (λ s. in_base s.base (iri_text (token_text text t))) (or_refuse t.start.line RelativeIri)

-- the prefix of a PNAME_NS or PNAME_LN
abbrev pub prefix_of : List ℕ → Token → List ℕ
prefix_of text t = encode_utf8_all (prefix_part (token_text text t))

abbrev pub local_of : List ℕ → Token → List ℕ
local_of text t = local_text (local_part (token_text text t))

-- PrefixedName: the prefix's IRI and the local part
abbrev pub prefixed_iri : List ℕ → Token → Parser (List ℕ)
prefixed_iri text t = asking (λ s. lookup (bytes_eq (prefix_of text t)) s.prefixes) (or_refuse t.start.line UndeclaredPrefix) >>= λ iri. give (iri ++ local_of text t)

-- [135s] iri: IRIREF or PrefixedName
abbrev pub iri_of : TokenKind → List ℕ → Token → Parser (List ℕ)
iri_of IriRef text t = resolved_iri text t
iri_of PrefixName text t = prefixed_iri text t
iri_of PrefixedName text t = prefixed_iri text t
iri_of _ text t = refuse t.start.line UnexpectedToken

unfoldable pub iri : List ℕ → Token → Parser (List ℕ)
iri text t = iri_of t.kind text t

-- a new blank node (section 7.1)
unfoldable pub fresh : Parser Term
fresh s = Ok (Blank s.session s.next, record s { next = s.next + 1 })

-- The blank node of a label: a new one at its first use.
abbrev pub node_of_label : Option ℕ → List ℕ → Parser Term
node_of_label (Some number) label s = Ok (Blank s.session number, s)
node_of_label None label s = Ok (Blank s.session s.next, record s { labels = insert_entry bytes_eq s.labels label s.next; next = s.next + 1 })

abbrev pub label_of : List ℕ → Token → List ℕ
label_of text t = encode_utf8_all (drop 2 (token_text text t))

-- [137s] BlankNode, by its BLANK_NODE_LABEL
unfoldable pub labelled : List ℕ → Token → Parser Term
labelled text t = asking (λ s. lookup (bytes_eq (label_of text t)) s.labels) (λ number. node_of_label number (label_of text t))

-- literals that aren't kept (rdf_lexical has their kinds)
abbrev pub kept_by : Option ℕ → ℕ → Term → Parser Term
kept_by None line term = give term
kept_by (Some number) line term = refuse line (kind_of_literal number)

-- a literal of the line is complete
unfoldable pub kept : ℕ → Term → Parser Term
kept line term = kept_by (profile term) line term

-- the language tag, in lower case
abbrev pub tag_of : List ℕ → Token → List ℕ
tag_of text t = lower_text (drop 1 (token_text text t))

-- with its LANGTAG, or with `^^` iri
unfoldable pub tagged : List ℕ → List ℕ → Parser Term
tagged text value = next text >>= λ t. give (Literal value (rdf (codes "langString")) (Some (tag_of text t)))

unfoldable pub typed : List ℕ → ℕ → List ℕ → Parser Term
typed text line value = next text >>= λ _. next text >>= λ t. iri text t >>= λ datatype. kept line (Literal value datatype None)

-- [128s] RDFLiteral, after its String: optionally LANGTAG, or `^^` iri; the line is that of the string
abbrev pub rdf_literal : List ℕ → ℕ → List ℕ → Parser Term
rdf_literal text line value = where_next is_language_tag (tagged text value)
    (where_next is_carets (typed text line value) (give (Literal value (xsd (codes "string")) None)))

abbrev pub string : List ℕ → Quotes → Token → Parser Term
string text quotes t = rdf_literal text t.start.line (string_value quotes (token_text text t))

-- [16] NumericLiteral and [133s] BooleanLiteral, by the datatype
abbrev pub plain : List ℕ → List ℕ → Token → Parser Term
plain text datatype t = kept t.start.line (Literal (encode_utf8_all (token_text text t)) datatype None)
