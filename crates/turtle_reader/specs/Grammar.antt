-- The productions of Turtle 1.1 section 6.5, each as a parser. Where a token is ahead that a production can't have, that is
-- the refusal; a production that may end there leaves the token to what comes after it.
use Rattle.std.specs.Prelude.{ℕ, zero, suc, List, [], ◌∷◌, ◌++◌, codes, Some, Ok, if◌then◌else◌, bytes_eq}
use Rattle.rdf_model.specs.declared.term.Term.{Term}
use Rattle.rdf_model.specs.declared.term.Term.TheVariants.{Iri}
use Rattle.turtle_lex.specs.declared.token.Token.{Token}
use Rattle.turtle_lex.specs.declared.token.TokenKind.{TokenKind}
use Rattle.turtle_lex.specs.declared.token.TokenKind.TheVariants.{IriRef, PrefixName, PrefixedName, BlankNodeLabel, Integer, Decimal, Double, StringLiteral, OpenBracket, OpenParenthesis, A, True, False, Prefix, Base, AtPrefix, AtBase}
use Rattle.indexmap.specs.IndexMap.{insert_entry}
use Rattle.rdf_lexical.specs.declared.refusal.RefusalKind.TheVariants.{UnexpectedToken, TooDeep, BlankPredicate}
use Rattle.turtle_reader.specs.Parsers.{Parser, ◌>>=◌, give, refuse, many}
use Rattle.turtle_reader.specs.Tokens.{is_comma, is_semicolon, is_dot, is_close_bracket, is_close_parenthesis, is_prefix_name, is_iri_ref, may_begin_verb, next, is_next, is_other, is_unfinished, expected, where_next}
use Rattle.turtle_reader.specs.Terms.{rdf, xsd, iri, prefix_of, fresh, labelled, string, plain}

-- a triple is found
unfoldable pub found : Term → Term → Term → Parser (Unit {0})
found subject predicate object s = Ok (tt, record s { triples = s.triples ++ record { subject = subject; predicate = predicate; object = object } ∷ [] })

-- words of the RDF vocabulary
unfoldable pub rdf_type : Term
rdf_type = Iri (rdf (codes "type"))

unfoldable pub rdf_first : Term
rdf_first = Iri (rdf (codes "first"))

unfoldable pub rdf_rest : Term
rdf_rest = Iri (rdf (codes "rest"))

unfoldable pub rdf_nil : Term
rdf_nil = Iri (rdf (codes "nil"))

-- an iri as a term
abbrev pub iri_term : List ℕ → Token → Parser Term
iri_term text t = iri text t >>= λ iri. give (Iri iri)

-- [9] verb: predicate or `a`; [11] predicate: iri
abbrev pub verb_of : TokenKind → List ℕ → Token → Parser Term
verb_of A text t = give rdf_type
verb_of IriRef text t = iri_term text t
verb_of PrefixName text t = iri_term text t
verb_of PrefixedName text t = iri_term text t
verb_of BlankNodeLabel text t = refuse t.start.line BlankPredicate
verb_of OpenBracket text t = refuse t.start.line BlankPredicate
verb_of _ text t = refuse t.start.line UnexpectedToken

unfoldable pub verb : List ℕ → Parser Term
verb text = next text >>= λ t. verb_of t.kind text t

-- The productions below take the parser of an object within them, as `object`.

-- one object of a list: its triple
abbrev pub one_object : Parser Term → Term → Term → Parser (Unit {0})
one_object object subject predicate = object >>= found subject predicate

-- `(',' object)*`
unfoldable pub more_objects : List ℕ → Parser Term → Term → Term → Parser (Unit {0})
more_objects text object subject predicate = many text (is_next is_comma) (λ _. next text >>= λ _. one_object object subject predicate) tt

-- [8] objectList: object (',' object)*
abbrev pub object_list : List ℕ → Parser Term → Term → Term → Parser (Unit {0})
object_list text object subject predicate = one_object object subject predicate >>= λ _. more_objects text object subject predicate

-- verb objectList
abbrev pub verb_objects : List ℕ → Parser Term → Term → Parser (Unit {0})
verb_objects text object subject = verb text >>= object_list text object subject

-- `(';' (verb objectList)?)*`
unfoldable pub more_verbs : List ℕ → Parser Term → Term → Parser (Unit {0})
more_verbs text object subject = many text (is_next is_semicolon) (λ _. next text >>= λ _. where_next may_begin_verb (verb_objects text object subject) (give tt)) tt

-- [7] predicateObjectList: verb objectList (';' (verb objectList)?)*
abbrev pub predicate_object_list : List ℕ → Parser Term → Term → Parser (Unit {0})
predicate_object_list text object subject = verb_objects text object subject >>= λ _. more_verbs text object subject

-- [14] blankNodePropertyList: '[' predicateObjectList ']', after its bracket, of this node
abbrev pub property_list : List ℕ → Parser Term → Term → Parser Term
property_list text object node = predicate_object_list text object node >>= λ _. expected text is_close_bracket >>= λ _. give node

-- [162s] ANON: '[' ']', or blankNodePropertyList. The node is numbered when the bracket is met.
unfoldable pub square : List ℕ → Parser Term → Parser Term
square text object = fresh >>= λ node. where_next is_close_bracket (next text >>= λ _. give node) (property_list text object node)

-- Collections (section 2.8): each member is the rdf:first of a list node, which is numbered before what the member has.

-- one more member of a list, after this list node; the node of the new one
abbrev pub next_member : List ℕ → Parser Term → Term → Parser Term
next_member text object node = fresh >>= λ next. found node rdf_rest next >>= λ _. one_object object next rdf_first >>= λ _. give next

-- `object* ')'`, after the member of this list node
abbrev pub more_members : List ℕ → Parser Term → Term → Parser (Unit {0})
more_members text object node = many text (is_other is_close_parenthesis) (next_member text object) node >>= λ last. expected text is_close_parenthesis >>= λ _. found last rdf_rest rdf_nil

-- [15] collection: '(' object* ')'
unfoldable pub collection : List ℕ → Parser Term → Parser Term
collection text object = where_next is_close_parenthesis (next text >>= λ _. give rdf_nil)
    (fresh >>= λ node. one_object object node rdf_first >>= λ _. more_members text object node >>= λ _. give node)

-- iri, BlankNode by its label, or [13] literal
abbrev pub term_of : TokenKind → List ℕ → Token → Parser Term
term_of IriRef text t = iri_term text t
term_of PrefixName text t = iri_term text t
term_of PrefixedName text t = iri_term text t
term_of BlankNodeLabel text t = labelled text t
term_of (StringLiteral quotes) text t = string text quotes t
term_of Integer text t = plain text (xsd (codes "integer")) t
term_of Decimal text t = plain text (xsd (codes "decimal")) t
term_of Double text t = plain text (xsd (codes "double")) t
term_of True text t = plain text (xsd (codes "boolean")) t
term_of False text t = plain text (xsd (codes "boolean")) t
term_of _ text t = refuse t.start.line UnexpectedToken

-- [12] object: iri, BlankNode, collection, blankNodePropertyList or literal, by its first token and by what the two open
-- brackets begin
abbrev pub object_of : TokenKind → List ℕ → Parser Term → Parser Term → Token → Parser Term
object_of OpenBracket text list collected t = list
object_of OpenParenthesis text list collected t = collected
object_of kind text list collected t = term_of kind text t

-- too many brackets are open
abbrev pub too_deep : Token → Parser Term
too_deep t = refuse t.start.line TooDeep

-- an object within which so many brackets may be open at once
unfoldable pub object : List ℕ → ℕ → Parser Term
object text zero = next text >>= λ t. object_of t.kind text (too_deep t) (too_deep t) t
object text (suc levels) = next text >>= λ t. object_of t.kind text (square text (object text levels)) (collection text (object text levels)) t

-- [10] subject: iri, BlankNode or collection
abbrev pub subject_of : TokenKind → List ℕ → Parser Term → Token → Parser Term
subject_of IriRef text round t = iri_term text t
subject_of PrefixName text round t = iri_term text t
subject_of PrefixedName text round t = iri_term text t
subject_of BlankNodeLabel text round t = labelled text t
subject_of OpenParenthesis text round t = round
subject_of _ text round t = refuse t.start.line UnexpectedToken

-- [6] triples: subject predicateObjectList
abbrev pub subject_triples : List ℕ → ℕ → Token → Parser (Unit {0})
subject_triples text levels t = subject_of t.kind text (collection text (object text levels)) t >>= predicate_object_list text (object text (suc levels))

-- predicateObjectList?, at a statement's end
abbrev pub optional_predicates : List ℕ → Parser Term → Term → Parser (Unit {0})
optional_predicates text object node = where_next is_dot (give tt) (predicate_object_list text object node)

-- or blankNodePropertyList predicateObjectList?, or with ANON as the subject
abbrev pub bracket_triples : List ℕ → ℕ → Parser (Unit {0})
bracket_triples text levels = fresh >>= λ node. where_next is_close_bracket
    (next text >>= λ _. predicate_object_list text (object text (suc levels)) node)
    (property_list text (object text levels) node >>= optional_predicates text (object text (suc levels)))

-- the IRI of an IRIREF
abbrev pub iri_reference : List ℕ → Parser (List ℕ)
iri_reference text = next text >>= λ t. if is_iri_ref t.kind then iri text t else refuse t.start.line UnexpectedToken

-- a prefix stands for an IRI from here on; what it stood for before is gone (section 2.4)
abbrev pub prefix_set : List ℕ → List ℕ → Parser (Unit {0})
prefix_set prefix iri s = Ok (tt, record s { prefixes = insert_entry bytes_eq s.prefixes prefix iri })

abbrev pub base_set : List ℕ → Parser (Unit {0})
base_set iri s = Ok (tt, record s { base = Some iri })

-- [4] prefixID and [6s] sparqlPrefix, without a dot: PNAME_NS IRIREF
unfoldable pub prefix_declared : List ℕ → Parser (Unit {0})
prefix_declared text = expected text is_prefix_name >>= λ t. iri_reference text >>= λ iri. prefix_set (prefix_of text t) iri

-- [5] base and [5s] sparqlBase, without a dot: IRIREF, which is resolved against the base before it
unfoldable pub base_declared : List ℕ → Parser (Unit {0})
base_declared text = iri_reference text >>= base_set

-- [6] triples, by their first token
abbrev pub triples_of : TokenKind → List ℕ → ℕ → Token → Parser (Unit {0})
triples_of OpenBracket text levels t = bracket_triples text levels
triples_of kind text levels t = subject_triples text levels t

-- what a dot ends: `@prefix`, `@base` or triples
abbrev pub dotted_of : TokenKind → List ℕ → ℕ → Token → Parser (Unit {0})
dotted_of AtPrefix text levels t = prefix_declared text
dotted_of AtBase text levels t = base_declared text
dotted_of kind text levels t = triples_of kind text levels t

abbrev pub to_dot : TokenKind → List ℕ → ℕ → Token → Parser (Unit {0})
to_dot kind text levels t = dotted_of kind text levels t >>= λ _. expected text is_dot >>= λ _. give tt

-- [2] statement: [3] directive, or triples '.'
abbrev pub statement_of : TokenKind → List ℕ → ℕ → Token → Parser (Unit {0})
statement_of Prefix text levels t = prefix_declared text
statement_of Base text levels t = base_declared text
statement_of kind text levels t = to_dot kind text levels t

unfoldable pub statement : List ℕ → ℕ → Parser (Unit {0})
statement text levels = next text >>= λ t. statement_of t.kind text levels t

-- [1] turtleDoc: statement*
unfoldable pub turtle_doc : List ℕ → ℕ → Parser (Unit {0})
turtle_doc text levels = many text is_unfinished (λ _. statement text levels) tt
