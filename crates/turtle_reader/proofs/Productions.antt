-- Each production takes a token or more; its parts take some or none.
use Rattle.std.proofs.Common.{◌≡◌, ℕ, zero, suc, ◌≤◌, Bool, true, false, cond, List, ◌++◌, Ok, Err, Some, None, Option, subst, arith}
use Rattle.std.specs.Prelude.{IfOk, codes, bytes_eq}
use Rattle.std.specs.Map.{lookup}
use Rattle.rdf_model.specs.declared.term.Term.{Term}
use Rattle.rdf_model.specs.declared.term.Term.TheVariants.{Iri, Literal}
use Rattle.turtle_lex.specs.declared.token.Token.{Token}
use Rattle.turtle_lex.specs.declared.token.TokenKind.{TokenKind}
use Rattle.turtle_lex.specs.declared.token.TokenKind.TheVariants.{IriRef, PrefixName, PrefixedName, BlankNodeLabel, Integer, Decimal, Double, StringLiteral, OpenBracket, OpenParenthesis, A, True, False, Prefix, Base, AtPrefix, AtBase}
use Rattle.turtle_reader.specs.declared.state.State.{State}
use Rattle.rdf_lexical.specs.declared.refusal.RefusalKind.{RefusalKind}
use Rattle.rdf_lexical.specs.declared.refusal.RefusalKind.TheVariants.{UnexpectedToken, UndeclaredPrefix}
use Rattle.turtle_reader.specs.Parsers.{Outcome, Parser, ◌>>=◌, give, refuse, asking, left}
use Rattle.turtle_reader.specs.Tokens
use Rattle.turtle_reader.specs.Tokens.{next, is_next, expected, where_next}
use Rattle.turtle_reader.specs.Terms
use Rattle.turtle_reader.specs.Grammar
use Rattle.turtle_reader.proofs.Progress.{Takes, Keeps, Below, takes_keeps, takes_then, then_takes, keeps_then, keeps_many}
use Rattle.turtle_reader.proofs.Places.{next_takes}

pub keeps_give : {A : Type 0} (text : List ℕ) (x : A) → Keeps text (give x)
keeps_give text x s = (omega arith, omega arith)

keeps_or_refuse : {A : Type 0} (text : List ℕ) (line : ℕ) (kind : RefusalKind) (o : Option A) → Keeps text (Terms.or_refuse line kind o)
keeps_or_refuse text line kind (Some x) s = (omega arith, omega arith)
keeps_or_refuse text line kind None s = tt

keeps_asking : {A B : Type 0} (text : List ℕ) (f : State → A) (g : A → Parser B) → ((x : A) → Keeps text (g x)) → Keeps text (asking f g)
keeps_asking text f g h s = h (f s) s

pub keeps_where : {X : Type 0} (text : List ℕ) (test : TokenKind → Bool) (f g : Parser X) → Keeps text f → Keeps text g → Keeps text (where_next test f g)
unfolding where_next
keeps_where {X = X} text test f g hf hg s = elim (is_next test s) as (λ b. Below text (suc (left text s)) s.next ((let h : Parser X = cond b f g in h) s)) [ true ↦ hf s | false ↦ hg s ]

pub keeps_next : (text : List ℕ) → Keeps text (next text)
keeps_next text = takes_keeps text (next text) (next_takes text)

pub takes_expected : (text : List ℕ) (test : TokenKind → Bool) → Takes text (expected text test)
unfolding expected
takes_expected text test = takes_then text (next text) _ (next_takes text) (λ t s. elim (test t.kind) as (λ b. Below text (suc (left text s)) s.next ((let h : Parser Token = cond b (give t) (refuse t.start.line UnexpectedToken) in h) s)) [ true ↦ keeps_give text t s | false ↦ tt ])

keeps_resolved : (text : List ℕ) (t : Token) → Keeps text (Terms.resolved_iri text t)
keeps_resolved text t s = keeps_or_refuse text _ _ (Terms.in_base s.base _) s

keeps_prefixed : (text : List ℕ) (t : Token) → Keeps text (Terms.prefixed_iri text t)
keeps_prefixed text t = keeps_then {A = List ℕ} {B = List ℕ} text _ _ (λ s. keeps_or_refuse text t.start.line UndeclaredPrefix (lookup (bytes_eq (Terms.prefix_of text t)) s.prefixes) s) (λ iri. keeps_give text (iri ++ Terms.local_of text t))

keeps_iri_of : (k : TokenKind) (text : List ℕ) (t : Token) → Keeps text (Terms.iri_of k text t)
keeps_iri_of IriRef text t = keeps_resolved text t
keeps_iri_of PrefixName text t = keeps_prefixed text t
keeps_iri_of PrefixedName text t = keeps_prefixed text t
keeps_iri_of _ text t = λ s. tt

pub keeps_iri : (text : List ℕ) (t : Token) → Keeps text (Terms.iri text t)
unfolding Terms.iri
keeps_iri text t = keeps_iri_of t.kind text t

keeps_term : (text : List ℕ) (t : Token) → Keeps text (Grammar.iri_term text t)
keeps_term text t = keeps_then text _ _ (keeps_iri text t) (λ iri. keeps_give text (Iri iri))

keeps_node : (text : List ℕ) (o : Option ℕ) (label : List ℕ) → Keeps text (Terms.node_of_label o label)
keeps_node text (Some n) label s = (omega arith, omega arith)
keeps_node text None label s = (omega arith, omega arith)

keeps_labelled : (text : List ℕ) (t : Token) → Keeps text (Terms.labelled text t)
unfolding Terms.labelled
keeps_labelled text t s = keeps_node text _ _ s

pub keeps_fresh : (text : List ℕ) → Keeps text Terms.fresh
unfolding Terms.fresh
keeps_fresh text s = (omega arith, omega arith)

keeps_kept_by : (text : List ℕ) (o : Option ℕ) (line : ℕ) (term : Term) → Keeps text (Terms.kept_by o line term)
keeps_kept_by text (Some n) line term s = tt
keeps_kept_by text None line term s = (omega arith, omega arith)

keeps_kept : (text : List ℕ) (line : ℕ) (term : Term) → Keeps text (Terms.kept line term)
unfolding Terms.kept
keeps_kept text line term s = keeps_kept_by text _ line term s

keeps_tagged : (text value : List ℕ) → Keeps text (Terms.tagged text value)
unfolding Terms.tagged
keeps_tagged text value = keeps_then text _ _ (keeps_next text) (λ t. keeps_give text (Literal value (Terms.rdf (codes "langString")) (Some (Terms.tag_of text t))))

keeps_typed : (text : List ℕ) (line : ℕ) (value : List ℕ) → Keeps text (Terms.typed text line value)
unfolding Terms.typed
keeps_typed text line value = keeps_then text _ _ (keeps_next text) (λ u. keeps_then text _ _ (keeps_next text) (λ t. keeps_then text _ _ (keeps_iri text t) (λ datatype. keeps_kept text line _)))

keeps_literal : (text : List ℕ) (line : ℕ) (value : List ℕ) → Keeps text (Terms.rdf_literal text line value)
keeps_literal text line value = keeps_where text _ _ _ (keeps_tagged text value)
    (keeps_where text _ _ _ (keeps_typed text line value) (keeps_give text (Literal value (Terms.xsd (codes "string")) None)))

pub keeps_found : (text : List ℕ) (a b c : Term) → Keeps text (Grammar.found a b c)
unfolding Grammar.found
keeps_found text a b c s = (omega arith, omega arith)

keeps_verb_of : (k : TokenKind) (text : List ℕ) (t : Token) → Keeps text (Grammar.verb_of k text t)
keeps_verb_of A text t = keeps_give text Grammar.rdf_type
keeps_verb_of IriRef text t = keeps_term text t
keeps_verb_of PrefixName text t = keeps_term text t
keeps_verb_of PrefixedName text t = keeps_term text t
keeps_verb_of _ text t = λ s. tt

takes_verb : (text : List ℕ) → Takes text (Grammar.verb text)
unfolding Grammar.verb
takes_verb text = takes_then text (next text) _ (next_takes text) (λ t. keeps_verb_of t.kind text t)

-- the productions with an object in them

pub takes_one : (text : List ℕ) (object : Parser Term) (a b : Term) → Takes text object → Takes text (Grammar.one_object object a b)
takes_one text object a b h = takes_then text object _ h (λ c. keeps_found text a b c)

pub takes_comma : (text : List ℕ) (object : Parser Term) (a b : Term) → Takes text object → Takes text (next text >>= λ _. Grammar.one_object object a b)
takes_comma text object a b h = takes_then text (next text) _ (next_takes text) (λ t. takes_keeps text _ (takes_one text object a b h))

keeps_more_objects : (text : List ℕ) (object : Parser Term) (a b : Term) → Takes text object → Keeps text (Grammar.more_objects text object a b)
unfolding Grammar.more_objects
keeps_more_objects text object a b h = keeps_many text _ _ (λ x. takes_keeps text _ (takes_comma text object a b h)) tt

takes_object_list : (text : List ℕ) (object : Parser Term) (a b : Term) → Takes text object → Takes text (Grammar.object_list text object a b)
takes_object_list text object a b h = takes_then text _ _ (takes_one text object a b h) (λ x. keeps_more_objects text object a b h)

takes_verb_objects : (text : List ℕ) (object : Parser Term) (a : Term) → Takes text object → Takes text (Grammar.verb_objects text object a)
takes_verb_objects text object a h = takes_then text _ _ (takes_verb text) (λ b. takes_keeps text _ (takes_object_list text object a b h))

pub takes_semicolon : (text : List ℕ) (object : Parser Term) (a : Term) → Takes text object → Takes text (next text >>= λ _. where_next Tokens.may_begin_verb (Grammar.verb_objects text object a) (give tt))
takes_semicolon text object a h = takes_then text (next text) _ (next_takes text) (λ t. keeps_where text _ _ _ (takes_keeps text _ (takes_verb_objects text object a h)) (keeps_give {A = Unit {0}} text tt))

keeps_more_verbs : (text : List ℕ) (object : Parser Term) (a : Term) → Takes text object → Keeps text (Grammar.more_verbs text object a)
unfolding Grammar.more_verbs
keeps_more_verbs text object a h = keeps_many text _ _ (λ x. takes_keeps text _ (takes_semicolon text object a h)) tt

takes_predicates : (text : List ℕ) (object : Parser Term) (a : Term) → Takes text object → Takes text (Grammar.predicate_object_list text object a)
takes_predicates text object a h = takes_then text _ _ (takes_verb_objects text object a h) (λ x. keeps_more_verbs text object a h)

takes_property_list : (text : List ℕ) (object : Parser Term) (a : Term) → Takes text object → Takes text (Grammar.property_list text object a)
takes_property_list text object a h = takes_then text _ _ (takes_predicates text object a h) (λ x. keeps_then text _ _ (takes_keeps text _ (takes_expected text _)) (λ t. keeps_give text a))

keeps_square : (text : List ℕ) (object : Parser Term) → Takes text object → Keeps text (Grammar.square text object)
unfolding Grammar.square
keeps_square text object h = keeps_then text _ _ (keeps_fresh text) (λ node. keeps_where text _ _ _ (keeps_then text _ _ (keeps_next text) (λ t. keeps_give text node)) (takes_keeps text _ (takes_property_list text object node h)))

pub takes_member : (text : List ℕ) (object : Parser Term) (node : Term) → Takes text object → Takes text (Grammar.next_member text object node)
takes_member text object node h = then_takes text _ _ (keeps_fresh text) (λ m. then_takes text _ _ (keeps_found text node Grammar.rdf_rest m) (λ x. takes_then text _ _ (takes_one text object m Grammar.rdf_first h) (λ y. keeps_give text m)))

keeps_more_members : (text : List ℕ) (object : Parser Term) (node : Term) → Takes text object → Keeps text (Grammar.more_members text object node)
keeps_more_members text object node h = keeps_then text _ _ (keeps_many text _ _ (λ x. takes_keeps text _ (takes_member text object x h)) node) (λ last. keeps_then text _ _ (takes_keeps text _ (takes_expected text _)) (λ t. keeps_found text last _ _))

keeps_collection : (text : List ℕ) (object : Parser Term) → Takes text object → Keeps text (Grammar.collection text object)
unfolding Grammar.collection
keeps_collection text object h = keeps_where text _ _ _ (keeps_then text _ _ (keeps_next text) (λ t. keeps_give text Grammar.rdf_nil))
    (keeps_then text _ _ (keeps_fresh text) (λ node. keeps_then text _ _ (takes_keeps text _ (takes_one text object node _ h)) (λ x. keeps_then text _ _ (keeps_more_members text object node h) (λ y. keeps_give text node))))

keeps_term_of : (k : TokenKind) (text : List ℕ) (t : Token) → Keeps text (Grammar.term_of k text t)
keeps_term_of IriRef text t = keeps_term text t
keeps_term_of PrefixName text t = keeps_term text t
keeps_term_of PrefixedName text t = keeps_term text t
keeps_term_of BlankNodeLabel text t = keeps_labelled text t
keeps_term_of (StringLiteral quotes) text t = keeps_literal text _ _
keeps_term_of Integer text t = keeps_kept text _ _
keeps_term_of Decimal text t = keeps_kept text _ _
keeps_term_of Double text t = keeps_kept text _ _
keeps_term_of True text t = keeps_kept text _ _
keeps_term_of False text t = keeps_kept text _ _
keeps_term_of _ text t = λ s. tt

keeps_object_of : (k : TokenKind) (text : List ℕ) (list collected : Parser Term) (t : Token) → Keeps text list → Keeps text collected → Keeps text (Grammar.object_of k text list collected t)
keeps_object_of OpenBracket text list collected t hl hc = hl
keeps_object_of OpenParenthesis text list collected t hl hc = hc
keeps_object_of k text list collected t hl hc = keeps_term_of k text t

-- an object takes a token or more, at every level
pub takes_object : (text : List ℕ) (levels : ℕ) → Takes text (Grammar.object text levels)
unfolding Grammar.object
takes_object text zero = takes_then text (next text) _ (next_takes text) (λ t. keeps_object_of t.kind text _ _ t (λ s. tt) (λ s. tt))
takes_object text (suc levels) = takes_then text (next text) _ (next_takes text)
    (λ t. keeps_object_of t.kind text _ _ t (keeps_square text (Grammar.object text levels) (takes_object text levels)) (keeps_collection text (Grammar.object text levels) (takes_object text levels)))

-- the productions of a statement

keeps_optional : (text : List ℕ) (object : Parser Term) (a : Term) → Takes text object → Keeps text (Grammar.optional_predicates text object a)
keeps_optional text object a h = keeps_where text _ _ _ (keeps_give {A = Unit {0}} text tt) (takes_keeps text _ (takes_predicates text object a h))

keeps_bracket : (text : List ℕ) (levels : ℕ) → Keeps text (Grammar.bracket_triples text levels)
keeps_bracket text levels = keeps_then text _ _ (keeps_fresh text) (λ node. keeps_where text _ _ _
    (keeps_then text _ _ (keeps_next text) (λ t. takes_keeps text _ (takes_predicates text (Grammar.object text (suc levels)) node (takes_object text (suc levels)))))
    (keeps_then text _ _ (takes_keeps text _ (takes_property_list text (Grammar.object text levels) node (takes_object text levels))) (λ n. keeps_optional text (Grammar.object text (suc levels)) n (takes_object text (suc levels)))))

keeps_subject : (k : TokenKind) (text : List ℕ) (collected : Parser Term) (t : Token) → Keeps text collected → Keeps text (Grammar.subject_of k text collected t)
keeps_subject IriRef text collected t h = keeps_term text t
keeps_subject PrefixName text collected t h = keeps_term text t
keeps_subject PrefixedName text collected t h = keeps_term text t
keeps_subject BlankNodeLabel text collected t h = keeps_labelled text t
keeps_subject OpenParenthesis text collected t h = h
keeps_subject _ text collected t h = λ s. tt

keeps_triples : (k : TokenKind) (text : List ℕ) (levels : ℕ) (t : Token) → Keeps text (Grammar.triples_of k text levels t)
keeps_triples OpenBracket text levels t = keeps_bracket text levels
keeps_triples k text levels t = keeps_then text _ _ (keeps_subject t.kind text _ t (keeps_collection text (Grammar.object text levels) (takes_object text levels)))
    (λ node. takes_keeps text _ (takes_predicates text (Grammar.object text (suc levels)) node (takes_object text (suc levels))))

keeps_reference : (text : List ℕ) → Keeps text (Grammar.iri_reference text)
keeps_reference text = keeps_then text _ _ (keeps_next text) (λ t s. elim (Tokens.is_iri_ref t.kind) as (λ b. Below text (suc (left text s)) s.next ((let h : Parser (List ℕ) = cond b (Terms.iri text t) (refuse t.start.line UnexpectedToken) in h) s)) [ true ↦ keeps_iri text t s | false ↦ tt ])

keeps_prefix : (text : List ℕ) → Keeps text (Grammar.prefix_declared text)
unfolding Grammar.prefix_declared
keeps_prefix text = keeps_then text _ _ (takes_keeps text _ (takes_expected text _)) (λ t. keeps_then text _ _ (keeps_reference text) (λ iri s. (omega arith, omega arith)))

keeps_base : (text : List ℕ) → Keeps text (Grammar.base_declared text)
unfolding Grammar.base_declared
keeps_base text = keeps_then text _ _ (keeps_reference text) (λ iri s. (omega arith, omega arith))

keeps_dotted : (k : TokenKind) (text : List ℕ) (levels : ℕ) (t : Token) → Keeps text (Grammar.dotted_of k text levels t)
keeps_dotted AtPrefix text levels t = keeps_prefix text
keeps_dotted AtBase text levels t = keeps_base text
keeps_dotted k text levels t = keeps_triples k text levels t

keeps_statement : (k : TokenKind) (text : List ℕ) (levels : ℕ) (t : Token) → Keeps text (Grammar.statement_of k text levels t)
keeps_statement Prefix text levels t = keeps_prefix text
keeps_statement Base text levels t = keeps_base text
keeps_statement k text levels t = keeps_then text _ _ (keeps_dotted k text levels t) (λ x. keeps_then text _ _ (takes_keeps text _ (takes_expected text _)) (λ t. keeps_give {A = Unit {0}} text tt))

pub takes_statement : (text : List ℕ) (levels : ℕ) → Takes text (Grammar.statement text levels)
unfolding Grammar.statement
takes_statement text levels = takes_then text (next text) _ (next_takes text) (λ t. keeps_statement t.kind text levels t)

pub keeps_doc : (text : List ℕ) (levels : ℕ) → Keeps text (Grammar.turtle_doc text levels)
unfolding Grammar.turtle_doc
keeps_doc text levels = keeps_many text _ _ (λ x. takes_keeps text _ (takes_statement text levels)) tt

rises_by : (text : List ℕ) (n low : ℕ) (o : Outcome (Unit {0})) (t : State) → Below text n low o → o ≡ Ok (tt, t) → low ≤ t.next
rises_by text n low (Ok r) t h e = subst (λ (o : Outcome (Unit {0})). IfOk o (λ r. low ≤ r.1.next)) e h.1
rises_by text n low (Err f) t h e = cc

-- the next number is no lower behind a text
pub doc_rises : (text : List ℕ) (levels : ℕ) (s t : State) → Grammar.turtle_doc text levels s ≡ Ok (tt, t) → s.next ≤ t.next
doc_rises text levels s t e = rises_by text (suc (left text s)) s.next (Grammar.turtle_doc text levels s) t (keeps_doc text levels s) e
