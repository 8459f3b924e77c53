-- The lines of N-Triples 1.1, by the productions of section 7.
use Rattle.std.specs.Prelude.{ℕ, Bool, true, false, List, [], ◌∷◌, Option, Some, None, Result, Ok, Err, if◌then◌else◌, codes}
use Rattle.rdf_model.specs.declared.term.Term.{Term}
use Rattle.rdf_model.specs.declared.term.Term.TheVariants.{Iri, Literal}
use Rattle.rdf_model.specs.NTriples.{xsd_string}
use Rattle.iri_ref.specs.Scheme.{has_scheme}
use Rattle.literal_order.specs.Values.{profile}
use Rattle.rdf_lexical.specs.declared.refusal.RefusalKind.{RefusalKind}
use Rattle.rdf_lexical.specs.declared.refusal.RefusalKind.TheVariants.{UnexpectedToken, RelativeIri, NoStoreLabel, BlankPredicate, UnexpectedEnd}
use Rattle.ntriples_text.specs.declared.token.Token.{Token}
use Rattle.ntriples_text.specs.declared.token.Token.TheVariants.{IriRef, Quoted, Label, LanguageTag, Carets, Dot, LineEnd, TextEnd}
use Rattle.ntriples_text.specs.declared.statement.Node.{Node}
use Rattle.ntriples_text.specs.declared.statement.Node.TheVariants.{Labelled, Plain}
use Rattle.ntriples_text.specs.declared.statement.Statement.{Statement}
use Rattle.rdf_lexical.specs.Refusals.{◌>>=◌, kind_of_literal}
use Rattle.ntriples_text.specs.declared.statement.LabelKind.{LabelKind}
use Rattle.ntriples_text.specs.declared.statement.LabelKind.TheVariants.{OfText, OfStore}
use Rattle.ntriples_text.specs.StoreLabels.{stored_node}
use Rattle.ntriples_text.specs.Tokens.{Parsed, token}

-- where a token is none that the grammar asks for: the text's end comes too early, any other isn't allowed
abbrev pub unexpected : Token → RefusalKind
unexpected TextEnd = UnexpectedEnd
unexpected _ = UnexpectedToken

-- an IRIREF, which has a scheme (N-Triples section 2.2: IRIs are absolute)
abbrev pub iri_of : Token → Result (List ℕ) RefusalKind
iri_of (IriRef iri) = if has_scheme iri then Ok iri else Err RelativeIri
iri_of t = Err (unexpected t)

unfoldable pub iri : List ℕ → Parsed (List ℕ)
iri cs = do
  t ← token cs
  iri ← iri_of t.0
  Ok (iri, t.1)

-- the node of the store that a label asks for, where the label is one of the store's
abbrev pub stored : Option Term → Result Node RefusalKind
stored (Some node) = Ok (Plain node)
stored None = Err NoStoreLabel

-- What a label gives is the one thing that differs: a blank node of the text, or a blank node of the store.
abbrev pub labelled : LabelKind → List ℕ → Result Node RefusalKind
labelled OfText label = Ok (Labelled label)
labelled OfStore label = stored (stored_node label)

-- subject: an IRIREF or a label
abbrev pub node_of : LabelKind → Token → Result Node RefusalKind
node_of labels (Label label) = labelled labels label
node_of labels t = iri_of t >>= λ a. Ok (Plain (Iri a))

-- predicate: an IRIREF
abbrev pub predicate_of : Token → Result (List ℕ) RefusalKind
predicate_of (Label label) = Err BlankPredicate
predicate_of t = iri_of t

unfoldable pub predicate : List ℕ → Parsed (List ℕ)
predicate cs = do
  t ← token cs
  iri ← predicate_of t.0
  Ok (iri, t.1)

abbrev pub rdf_lang_string : List ℕ
rdf_lang_string = codes "http://www.w3.org/1999/02/22-rdf-syntax-ns#langString"

-- a literal with a datatype, where the profile of literals keeps it
abbrev pub kept : Option ℕ → Term → Result Term RefusalKind
kept None term = Ok term
kept (Some n) term = Err (kind_of_literal n)

abbrev pub literal : List ℕ → List ℕ → Result Term RefusalKind
literal lexical datatype = kept (profile (Literal lexical datatype None)) (Literal lexical datatype None)

-- the literal of a string whose datatype follows
abbrev pub typed_from : List ℕ → List ℕ → Parsed Term
typed_from lexical cs = iri cs >>= λ d. literal lexical d.0 >>= λ term. Ok (term, d.1)

-- literal: a string, and `^^` IRIREF or LANGTAG; with neither the datatype is xsd:string, with LANGTAG rdf:langString
abbrev pub literal_at : List ℕ → List ℕ → Token × List ℕ → Parsed Term
literal_at lexical cs (Carets, rest) = typed_from lexical rest
literal_at lexical cs (LanguageTag tag, rest) = Ok (Literal lexical rdf_lang_string (Some tag), rest)
literal_at lexical cs t = Ok (Literal lexical xsd_string None, cs)

unfoldable pub literal_from : List ℕ → List ℕ → Parsed Term
literal_from lexical cs = token cs >>= literal_at lexical cs

-- object: a literal, or as a subject
abbrev pub object_at : LabelKind → Token × List ℕ → Parsed Node
object_at labels (Quoted lexical, rest) = literal_from lexical rest >>= λ r. Ok (Plain r.0, r.1)
object_at labels t = node_of labels t.0 >>= λ n. Ok (n, t.1)

unfoldable pub object : LabelKind → List ℕ → Parsed Node
object labels cs = token cs >>= object_at labels

-- the dot
abbrev pub dot_at : Token × List ℕ → Result (List ℕ) RefusalKind
dot_at (Dot, rest) = Ok rest
dot_at t = Err (unexpected t.0)

unfoldable pub dot : List ℕ → Result (List ℕ) RefusalKind
dot cs = token cs >>= dot_at

-- the end of the line or of the text
abbrev pub is_end : Token → Bool
is_end LineEnd = true
is_end TextEnd = true
is_end _ = false

unfoldable pub end : List ℕ → Result (Unit {0}) RefusalKind
end cs = token cs >>= λ t. if is_end t.0 then Ok tt else Err UnexpectedToken

-- triple: subject, predicate, object and the dot, and then the line's end; the subject's token has been read
unfoldable pub statement_from : LabelKind → Token × List ℕ → Result Statement RefusalKind
statement_from labels t = do
  subject ← node_of labels t.0
  predicate ← predicate t.1
  object ← object labels predicate.1
  rest ← dot object.1
  ended ← end rest
  Ok (record { subject = subject; predicate = predicate.0; object = object.0 })

-- a line has a triple or none
unfoldable pub line : LabelKind → List ℕ → Result (Option Statement) RefusalKind
line labels cs = do
  t ← token cs
  if is_end t.0 then Ok None else (statement_from labels t >>= λ s. Ok (Some s))

-- a term that a text gives alone, with nothing behind it; its labels are those of the store
abbrev pub plain_term : Node → Option Term
plain_term (Labelled label) = None
plain_term (Plain term) = Some term

abbrev pub alone_from : Parsed Node → Option Term
alone_from (Ok (node, [])) = plain_term node
alone_from (Ok (node, c ∷ cs)) = None
alone_from (Err kind) = None

abbrev pub alone : List ℕ → Option Term
alone cs = alone_from (object OfStore cs)
