-- What is read by the labels of the store can be written and read again, its blank nodes too.
use Rattle.std.proofs.Common.{◌≡◌, ◌∙◌, ℕ, true, false, cond, List, [], ◌∷◌, take, drop, map, Option, Some, None, Result, Ok, Err, refl, sym, ap, subst, eqb}
use Rattle.std.specs.List.{AllByRecursion, list_all, onto_first}
use Rattle.std.specs.Str.{IsUtf8, is_utf8, chars}
use Rattle.std.specs.Str.Lossy.{utf8_valid_len}
use Rattle.std.proofs.lemmas.Str.{chars-encodes, scalars-chars, IsUtf8-from_is_utf8}
use Rattle.std.proofs.lemmas.Bool.{and_parts, and_from}
use Rattle.std.specs.Ordering.{match_ordering}
use Rattle.std.specs.declared.cmp.Ordering.TheVariants.{Less, Equal, Greater}
use lib.Utf8.{encode, scalars, scalar}
use Rattle.rdf_lexical.specs.declared.quoting.Quotes.TheVariants.{Double}
use Rattle.rdf_lexical.specs.declared.enclosing.Enclosed.TheVariants as enclosed
use Rattle.rdf_lexical.specs.Characters.{is_iri_char, is_line_end}
use Rattle.iri_ref.specs.Scheme.{has_scheme}
use Rattle.collections.specs.Ordered.{with_item}
use Rattle.rdf_model.specs.declared.term.Term.{Term}
use Rattle.rdf_model.specs.declared.term.Term.TheVariants.{Blank, Iri, Literal}
use Rattle.rdf_model.specs.declared.triple.Triple.{Triple}
use Rattle.rdf_model.specs.Terms.{triple_cmp}
use Rattle.rdf_model.specs.Graphs.{with_each}
use Rattle.rdf_model.specs.NTriples.{xsd_string}
use Rattle.rdf_lexical.specs.declared.refusal.RefusalKind.{RefusalKind}
use Rattle.rdf_lexical.specs.declared.refusal.RefusalKind.TheVariants.{NotUtf8, RelativeIri}
use Rattle.rdf_lexical.specs.Refusals.{◌>>=◌}
use Rattle.literal_order.specs.Values.{reading, profile}
use Rattle.literal_order.specs.Datatypes.{datatype_of, local_datatype}
use Rattle.ntriples_text.specs.declared.lexeme.TokenKind.{TokenKind}
use Rattle.ntriples_text.specs.declared.lexeme.TokenKind.TheVariants as kinds
use Rattle.ntriples_text.specs.declared.token.Token.{Token}
use Rattle.ntriples_text.specs.declared.token.Token.TheVariants.{IriRef, Quoted, Label, LanguageTag, Carets, Dot, LineEnd, TextEnd}
use Rattle.ntriples_text.specs.declared.statement.Node.{Node}
use Rattle.ntriples_text.specs.declared.statement.Node.TheVariants.{Labelled, Plain}
use Rattle.ntriples_text.specs.declared.statement.LabelKind.TheVariants.{OfStore}
use Rattle.ntriples_text.specs.declared.statement.Statement.{Statement}
use Rattle.ntriples_text.specs.Tokens.{Lexeme, is_blank, from_line_end, skipped, lexeme, token_of, token_at, token}
use Rattle.ntriples_text.specs.Productions.{IsToken}
use Rattle.ntriples_text.specs.StoreLabels.{node_of_numbers, number_within, node_behind_s, stored_node}
use Rattle.ntriples_text.specs.Grammar.{rdf_lang_string, kept, iri_of, iri, stored, node_of, predicate_of, predicate, literal, literal_at, literal_from, object_at, object, dot, is_end, end, statement_from, line}
use Rattle.ntriples_text.specs.Blanks.{all_labels, once, term_of, triple_of}
use Rattle.ntriples_text.specs.Document.{lines, lines_from, number_after, with_line, numbered, triples_of, line_of, reads_named}
use Rattle.ntriples_text.specs.Laws.{IsIriText, IsTagChars, IsReadableSubject, IsReadableObject, IsReadable, IsStored}
use Rattle.ntriples_text.proofs.Sorting.{each_ascends}
use Rattle.ntriples_text.proofs.Lexemes.{IsFound, token_found}
use Rattle.ntriples_text.proofs.Gives.{body_of, tag_of, scalars_drop, scalars_take}
use Rattle.ntriples_text.proofs.LabelLaws.{store_labels_written}
use Rattle.std.specs.List.{before_first, after_first}
use Rattle.record_text.specs.Records.{IsReadableGraph}

-- a token whose text is read again, before characters
abbrev IsTokenOf : Token → List ℕ → Type 0
IsTokenOf (IriRef a) rest = IsUtf8 a × (list_all is_iri_char (chars a) ≡ true) × (scalars rest ≡ true)
IsTokenOf (Quoted l) rest = IsUtf8 l × (scalars rest ≡ true)
IsTokenOf (LanguageTag t) rest = IsUtf8 t × IsTagChars (chars t) × (scalars rest ≡ true)
IsTokenOf (Label l) rest = scalars rest ≡ true
IsTokenOf Carets rest = scalars rest ≡ true
IsTokenOf Dot rest = scalars rest ≡ true
IsTokenOf LineEnd rest = scalars rest ≡ true
IsTokenOf TextEnd rest = scalars rest ≡ true

is_token : (t u : Token × List ℕ) → t ≡ u → IsTokenOf u.0 u.1 → IsTokenOf t.0 t.1
is_token t u is h = subst (λ (x : Token × List ℕ). IsTokenOf x.0 x.1) (sym is) h

-- a reading of two steps that succeeds
bind_ok : {A B : Type 0} (r : Result A RefusalKind) (f : A → Result B RefusalKind) (y : B) → (r >>= f) ≡ Ok y → (x : A) × (r ≡ Ok x) × (f x ≡ Ok y)
bind_ok (Ok x) f y h = (x, refl, h)
bind_ok (Err k) f y h = cc

token_means : (k : TokenKind) (t rest : List ℕ) → scalars t ≡ true → scalars rest ≡ true → IsToken k t → IsTokenOf (token_of k t) rest
token_means kinds.IriRef t rest s r (b, e, body) = let a = body_of enclosed.Iri 60 t b refl e s body in (a.0, a.1, r)
token_means kinds.StringLiteral t rest s r (b, e, body) = let a = body_of (enclosed.Text Double) 34 t b refl e s body in (a.0, r)
token_means kinds.BlankNodeLabel t rest s r h = r
token_means kinds.LanguageTag t rest s r h = let a = tag_of t s h in (a.0, a.1, r)
token_means kinds.Carets t rest s r h = r
token_means kinds.Dot t rest s r h = r
token_means kinds.LineEnd t rest s r h = r

by_lexeme : (cs : List ℕ) (r : Lexeme) (t : Token × List ℕ) → scalars cs ≡ true → IsFound r cs → (r >>= λ p. Ok (token_of p.0 (take p.1 cs), drop p.1 cs)) ≡ Ok t → IsTokenOf t.0 t.1
by_lexeme cs (Ok p) t s found h = is_token t (token_of p.0 (take p.1 cs), drop p.1 cs) (cc) (token_means p.0 (take p.1 cs) (drop p.1 cs) (scalars_take p.1 cs s) (scalars_drop p.1 cs s) found.0)
by_lexeme cs (Err k) t s found h = cc

token_from : (cs : List ℕ) (t : Token × List ℕ) → scalars cs ≡ true → token_at cs ≡ Ok t → IsTokenOf t.0 t.1
token_from [] t s h = is_token t (TextEnd, []) (cc) refl
token_from (c ∷ cs) t s h = by_lexeme (c ∷ cs) (lexeme (c ∷ cs)) t s (token_found (c ∷ cs)) h

comment_scalars : (cs : List ℕ) → scalars cs ≡ true → scalars (from_line_end cs) ≡ true
comment_scalars [] s = refl
comment_scalars (c ∷ cs) s = elim (is_line_end c) as (λ b. scalars (cond b (c ∷ cs) (from_line_end cs)) ≡ true) [ true ↦ s | false ↦ comment_scalars cs ((and_parts (scalar c) (scalars cs) s).1) ]

skipped_scalars : (cs : List ℕ) → scalars cs ≡ true → scalars (skipped cs) ≡ true
skipped_scalars [] s = refl
skipped_scalars (c ∷ cs) s =
    let p = and_parts (scalar c) (scalars cs) s in
    elim (is_blank c) as (λ b. scalars (cond b (skipped cs) (cond (eqb c 35) (from_line_end cs) (c ∷ cs))) ≡ true) [
      | true ↦ skipped_scalars cs p.1
      | false ↦ elim (eqb c 35) as (λ b. scalars (cond b (from_line_end cs) (c ∷ cs)) ≡ true) [ true ↦ comment_scalars cs p.1 | false ↦ s ]
    ]

token_gives : (cs : List ℕ) (t : Token × List ℕ) → scalars cs ≡ true → token cs ≡ Ok t → IsTokenOf t.0 t.1
unfolding token
token_gives cs t s h = token_from (skipped cs) t (skipped_scalars cs s) h

token_scalars : (t : Token) (rest : List ℕ) → IsTokenOf t rest → scalars rest ≡ true
token_scalars (IriRef a) rest h = h.2
token_scalars (Quoted l) rest h = h.1
token_scalars (LanguageTag t) rest h = h.2
token_scalars (Label l) rest h = h
token_scalars Carets rest h = h
token_scalars Dot rest h = h
token_scalars LineEnd rest h = h
token_scalars TextEnd rest h = h

iri_of_gives : (t : Token) (rest a : List ℕ) → IsTokenOf t rest → iri_of t ≡ Ok a → IsIriText a
iri_of_gives (IriRef x) rest a h e = elim (has_scheme x) as (λ b. has_scheme x ≡ b → cond b (Ok x) (Err RelativeIri) ≡ Ok a → IsIriText a) [
  | true ↦ λ q k. let is : a ≡ x = cc in let read : IsIriText x = (h.0, h.1, q) in subst (λ (y : List ℕ). IsIriText y) (sym is) read
  | false ↦ λ q k. cc
] refl e
iri_of_gives (Quoted l) rest a h e = cc
iri_of_gives (Label l) rest a h e = cc
iri_of_gives (LanguageTag l) rest a h e = cc
iri_of_gives Carets rest a h e = cc
iri_of_gives Dot rest a h e = cc
iri_of_gives LineEnd rest a h e = cc
iri_of_gives TextEnd rest a h e = cc

-- a reading of a text and what is left
abbrev IsRead : {X : Type 0} → (X → Type 0) → X × List ℕ → Type 0
IsRead P r = P r.0 × (scalars r.1 ≡ true)

iri_gives : (cs : List ℕ) (r : List ℕ × List ℕ) → scalars cs ≡ true → iri cs ≡ Ok r → IsRead IsIriText r
unfolding iri
iri_gives cs r s h =
    let b = bind_ok (token cs) (λ t. iri_of t.0 >>= λ a. Ok (a, t.1)) r h in
    let t = token_gives cs b.0 s b.1 in
    let d = bind_ok (iri_of b.0.0) (λ a. Ok (a, b.0.1)) r b.2 in
    let k = d.2 in
    let is : r ≡ (d.0, b.0.1) = cc in
    let both : IsRead IsIriText (d.0, b.0.1) = (iri_of_gives b.0.0 b.0.1 d.0 t d.1, token_scalars b.0.0 b.0.1 t) in
    subst (λ (x : List ℕ × List ℕ). IsRead IsIriText x) (sym is) both

predicate_of_gives : (t : Token) (rest a : List ℕ) → IsTokenOf t rest → predicate_of t ≡ Ok a → IsIriText a
predicate_of_gives (IriRef x) rest a h e = iri_of_gives (IriRef x) rest a h e
predicate_of_gives (Quoted l) rest a h e = cc
predicate_of_gives (Label l) rest a h e = cc
predicate_of_gives (LanguageTag l) rest a h e = cc
predicate_of_gives Carets rest a h e = cc
predicate_of_gives Dot rest a h e = cc
predicate_of_gives LineEnd rest a h e = cc
predicate_of_gives TextEnd rest a h e = cc

predicate_gives : (cs : List ℕ) (r : List ℕ × List ℕ) → scalars cs ≡ true → predicate cs ≡ Ok r → IsRead IsIriText r
unfolding predicate
predicate_gives cs r s h =
    let b = bind_ok (token cs) (λ t. predicate_of t.0 >>= λ a. Ok (a, t.1)) r h in
    let t = token_gives cs b.0 s b.1 in
    let d = bind_ok (predicate_of b.0.0) (λ a. Ok (a, b.0.1)) r b.2 in
    let k = d.2 in
    let is : r ≡ (d.0, b.0.1) = cc in
    let both : IsRead IsIriText (d.0, b.0.1) = (predicate_of_gives b.0.0 b.0.1 d.0 t d.1, token_scalars b.0.0 b.0.1 t) in
    subst (λ (x : List ℕ × List ℕ). IsRead IsIriText x) (sym is) both

-- nodes that are terms which can stand there
abbrev IsSubjectNode : Node → Type 0
IsSubjectNode (Labelled l) = ⊥
IsSubjectNode (Plain t) = IsReadableSubject IsStored t

abbrev IsObjectNode : Node → Type 0
IsObjectNode (Labelled l) = ⊥
IsObjectNode (Plain t) = IsReadableObject IsStored t

record IsGiven (s : Statement) : Type 0 where
  subject : IsSubjectNode s.subject
  predicate : IsIriText s.predicate
  object : IsObjectNode s.object

-- a label of the store gives a blank node that it may name
given_blank : (a b : Option ℕ) (t : Term) → node_of_numbers a b ≡ Some t → (s n : ℕ) × (t ≡ Blank s n)
given_blank (Some s) (Some n) t h = let is : t ≡ Blank s n = cc in (s, n, is)
given_blank (Some s) None t h = cc
given_blank None b t h = cc

label_blank : (label : List ℕ) (t : Term) → stored_node label ≡ Some t → (s n : ℕ) × (t ≡ Blank s n)
label_blank [] t h = cc
label_blank (c ∷ cs) t h = elim (eqb c 115) as (λ b. cond b (node_behind_s cs) None ≡ Some t → (s n : ℕ) × (t ≡ Blank s n)) [
  | true ↦ λ k. given_blank (number_within 64 (before_first (λ d. eqb d 120) cs)) (number_within 4294967295 (after_first (λ d. eqb d 120) cs)) t k
  | false ↦ λ k. cc
] h

label_node : (label : List ℕ) (n : Node) → stored (stored_node label) ≡ Ok n → (session number : ℕ) × IsStored session number × (n ≡ Plain (Blank session number))
label_node label n h = elim (stored_node label) as (λ o. stored_node label ≡ o → stored o ≡ Ok n → (session number : ℕ) × IsStored session number × (n ≡ Plain (Blank session number))) [
  | None ↦ λ e k. cc
  | Some t ↦ λ e k.
      let b = label_blank label t e in
      let is : n ≡ Plain t = cc in
      let law = (store_labels_written label b.0 b.1).0 (e ∙ ap (λ x. Some x) b.2) in
      (b.0, b.1, law.0, is ∙ ap (λ x. Plain x) b.2)
] refl h

iri_node : (x rest : List ℕ) (n : Node) → IsTokenOf (IriRef x) rest → node_of OfStore (IriRef x) ≡ Ok n → (a : List ℕ) × IsIriText a × (n ≡ Plain (Iri a))
iri_node x rest n h e =
    let b = bind_ok (iri_of (IriRef x)) (λ a. Ok (Plain (Iri a))) n e in
    let k = b.2 in
    let is : n ≡ Plain (Iri b.0) = cc in
    (b.0, iri_of_gives (IriRef x) rest b.0 h b.1, is)

node_gives : (t : Token) (rest : List ℕ) (n : Node) → IsTokenOf t rest → node_of OfStore t ≡ Ok n → IsSubjectNode n
node_gives (IriRef x) rest n h e = let g = iri_node x rest n h e in let read : IsSubjectNode (Plain (Iri g.0)) = g.1 in subst (λ (y : Node). IsSubjectNode y) (sym g.2) read
node_gives (Label l) rest n h e = let g = label_node l n e in let read : IsSubjectNode (Plain (Blank g.0 g.1)) = g.2 in subst (λ (y : Node). IsSubjectNode y) (sym g.3) read
node_gives (Quoted l) rest n h e = cc
node_gives (LanguageTag l) rest n h e = cc
node_gives Carets rest n h e = cc
node_gives Dot rest n h e = cc
node_gives LineEnd rest n h e = cc
node_gives TextEnd rest n h e = cc

xsd_string_iri : IsIriText xsd_string
unfolding encode
xsd_string_iri =
    let utf8 : IsUtf8 xsd_string = (xsd_string, (refl, refl)) in
    let same : chars xsd_string ≡ xsd_string = chars-encodes xsd_string refl in
    (utf8, ap (list_all is_iri_char) same, refl)

typed_gives : (l d : List ℕ) (x : Term) → literal l d ≡ Ok x → x ≡ Literal l d None
typed_gives l d x h = elim (profile (Literal l d None)) as (λ o. kept o (Literal l d None) ≡ Ok x → x ≡ Literal l d None) [ None ↦ λ e. cc | Some n ↦ λ e. cc ] h

abbrev IsObject : Term × List ℕ → Type 0
IsObject r = IsRead (IsReadableObject IsStored) r

plain_kept : (l : List ℕ) → literal l xsd_string ≡ Ok (Literal l xsd_string None)
unfolding reading datatype_of local_datatype
plain_kept l = refl

plain_gives : (l cs : List ℕ) (r : Term × List ℕ) → IsUtf8 l → scalars cs ≡ true → r ≡ (Literal l xsd_string None, cs) → IsObject r
plain_gives l cs r u s is =
    let both : IsObject (Literal l xsd_string None, cs) = ((u, xsd_string_iri, plain_kept l), s) in
    subst (λ (x : Term × List ℕ). IsObject x) (sym is) both

literal_gives : (l : List ℕ) (t : Token) (rest cs : List ℕ) (r : Term × List ℕ) → IsUtf8 l → scalars cs ≡ true → IsTokenOf t rest → literal_at l cs (t, rest) ≡ Ok r → IsObject r
literal_gives l Carets rest cs r u s h e =
    let b = bind_ok (iri rest) (λ d. literal l d.0 >>= λ term. Ok (term, d.1)) r e in
    let d = iri_gives rest b.0 h b.1 in
    let k = bind_ok (literal l b.0.0) (λ term. Ok (term, b.0.1)) r b.2 in
    let term = typed_gives l b.0.0 k.0 k.1 in
    let kept : literal l b.0.0 ≡ Ok (Literal l b.0.0 None) = k.1 ∙ ap (λ x. Ok x) term in
    let j = k.2 in
    let is : r ≡ (Literal l b.0.0 None, b.0.1) = cc in
    let both : IsObject (Literal l b.0.0 None, b.0.1) = ((u, d.0, kept), d.1) in
    subst (λ (x : Term × List ℕ). IsObject x) (sym is) both
literal_gives l (LanguageTag tag) rest cs r u s h e =
    let is : r ≡ (Literal l rdf_lang_string (Some tag), rest) = cc in
    let both : IsObject (Literal l rdf_lang_string (Some tag), rest) = ((u, refl, h.0, h.1), h.2) in
    subst (λ (x : Term × List ℕ). IsObject x) (sym is) both
literal_gives l (IriRef x) rest cs r u s h e = plain_gives l cs r u s cc
literal_gives l (Quoted x) rest cs r u s h e = plain_gives l cs r u s cc
literal_gives l (Label x) rest cs r u s h e = plain_gives l cs r u s cc
literal_gives l Dot rest cs r u s h e = plain_gives l cs r u s cc
literal_gives l LineEnd rest cs r u s h e = plain_gives l cs r u s cc
literal_gives l TextEnd rest cs r u s h e = plain_gives l cs r u s cc

string_gives : (l cs : List ℕ) (r : Term × List ℕ) → IsUtf8 l → scalars cs ≡ true → literal_from l cs ≡ Ok r → IsObject r
unfolding literal_from
string_gives l cs r u s h = let b = bind_ok (token cs) (literal_at l cs) r h in literal_gives l b.0.0 b.0.1 cs r u s (token_gives cs b.0 s b.1) b.2

abbrev IsNodeRead : Node × List ℕ → Type 0
IsNodeRead r = IsRead IsObjectNode r

object_from : (t : Token) (rest : List ℕ) (r : Node × List ℕ) → IsTokenOf t rest → object_at OfStore (t, rest) ≡ Ok r → IsNodeRead r
object_from (Quoted l) rest r h e =
    let b = bind_ok (literal_from l rest) (λ x. Ok (Plain x.0, x.1)) r e in
    let g = string_gives l rest b.0 h.0 h.1 b.1 in
    let k = b.2 in
    let is : r ≡ (Plain b.0.0, b.0.1) = cc in
    let both : IsNodeRead (Plain b.0.0, b.0.1) = (g.0, g.1) in
    subst (λ (x : Node × List ℕ). IsNodeRead x) (sym is) both
object_from (IriRef x) rest r h e =
    let b = bind_ok (node_of OfStore (IriRef x)) (λ n. Ok (n, rest)) r e in
    let g = iri_node x rest b.0 h b.1 in
    let k = b.2 in
    let is : r ≡ (b.0, rest) = cc in
    let read : IsObjectNode (Plain (Iri g.0)) = g.1 in
    let both : IsNodeRead (b.0, rest) = (subst (λ (y : Node). IsObjectNode y) (sym g.2) read, h.2) in
    subst (λ (y : Node × List ℕ). IsNodeRead y) (sym is) both
object_from (Label l) rest r h e =
    let b = bind_ok (node_of OfStore (Label l)) (λ n. Ok (n, rest)) r e in
    let g = label_node l b.0 b.1 in
    let k = b.2 in
    let is : r ≡ (b.0, rest) = cc in
    let read : IsObjectNode (Plain (Blank g.0 g.1)) = g.2 in
    let both : IsNodeRead (b.0, rest) = (subst (λ (y : Node). IsObjectNode y) (sym g.3) read, h) in
    subst (λ (y : Node × List ℕ). IsNodeRead y) (sym is) both
object_from (LanguageTag l) rest r h e = cc
object_from Carets rest r h e = cc
object_from Dot rest r h e = cc
object_from LineEnd rest r h e = cc
object_from TextEnd rest r h e = cc

object_gives : (cs : List ℕ) (r : Node × List ℕ) → scalars cs ≡ true → object OfStore cs ≡ Ok r → IsNodeRead r
unfolding object
object_gives cs r s h = let b = bind_ok (token cs) (object_at OfStore) r h in object_from b.0.0 b.0.1 r (token_gives cs b.0 s b.1) b.2

statement_gives : (t : Token) (rest : List ℕ) (x : Statement) → IsTokenOf t rest → statement_from OfStore (t, rest) ≡ Ok x → IsGiven x
unfolding statement_from
statement_gives t rest x h e =
    let s = bind_ok (node_of OfStore t) _ x e in
    let p = bind_ok (predicate rest) _ x s.2 in
    let o = bind_ok (object OfStore p.0.1) _ x p.2 in
    let d = bind_ok (dot o.0.1) _ x o.2 in
    let n = bind_ok (end d.0) _ x d.2 in
    let predicate = predicate_gives rest p.0 (token_scalars t rest h) p.1 in
    let object = object_gives p.0.1 o.0 predicate.1 o.1 in
    let made : Statement = record { subject = s.0; predicate = p.0.0; object = o.0.0 } in
    let k : Ok made ≡ Ok x = n.2 in
    let is : x ≡ made = cc in
    let read : IsGiven made = record { subject = node_gives t rest s.0 h s.1; predicate = predicate.0; object = object.0 } in
    subst (λ (y : Statement). IsGiven y) (sym is) read

line_gives : (cs : List ℕ) (x : Statement) → scalars cs ≡ true → line OfStore cs ≡ Ok (Some x) → IsGiven x
unfolding line
line_gives cs x s h =
    let b = bind_ok (token cs) (λ t. cond (is_end t.0) (Ok None) (statement_from OfStore t >>= λ y. Ok (Some y))) (Some x) h in
    let t = token_gives cs b.0 s b.1 in
    elim (is_end b.0.0) as (λ q. cond q (Ok None) (statement_from OfStore b.0 >>= λ y. Ok (Some y)) ≡ Ok (Some x) → IsGiven x) [
      | true ↦ λ k. cc
      | false ↦ λ k. let d = bind_ok (statement_from OfStore b.0) (λ y. Ok (Some y)) (Some x) k in
          let j = d.2 in
          let is : d.0 ≡ x = cc in
          subst (λ (y : Statement). IsGiven y) is (statement_gives b.0.0 b.0.1 d.0 t d.1)
    ] b.2

-- the lines of characters
abbrev AreScalars : List (List ℕ) → Type 0
AreScalars ls = AllByRecursion (λ l. scalars l ≡ true) ls

onto_scalars : (c : ℕ) (ls : List (List ℕ)) → scalar c ≡ true → AreScalars ls → AreScalars (onto_first c ls)
onto_scalars c [] s a = (and_from (scalar c) true s refl, tt)
onto_scalars c (l ∷ ls) s a = (and_from (scalar c) (scalars l) s a.0, a.1)

lines_scalars : (cs : List ℕ) → scalars cs ≡ true → AreScalars (lines cs)
lines_scalars [] s = tt
lines_scalars (c ∷ cs) s =
    let p = and_parts (scalar c) (scalars cs) s in
    let more = lines_scalars cs p.1 in
    elim (is_line_end c) as (λ b. AreScalars (cond b ((c ∷ []) ∷ lines cs) (onto_first c (lines cs)))) [
      | true ↦ (and_from (scalar c) true p.0 refl, more)
      | false ↦ onto_scalars c (lines cs) p.0 more
    ]

with_line_gives : (n : ℕ) (r : Result (Option Statement) RefusalKind) (more : Result (List Statement) (ℕ × RefusalKind)) (ss : List Statement)
    → ((x : Statement) → r ≡ Ok (Some x) → IsGiven x) → ((us : List Statement) → more ≡ Ok us → AllByRecursion IsGiven us) → with_line n r more ≡ Ok ss → AllByRecursion IsGiven ss
with_line_gives n (Err k) more ss one all h = cc
with_line_gives n (Ok None) more ss one all h = all ss h
with_line_gives n (Ok (Some x)) (Ok us) ss one all h =
    let is : ss ≡ x ∷ us = cc in
    let both : AllByRecursion IsGiven (x ∷ us) = (one x refl, all us refl) in
    subst (λ (y : List Statement). AllByRecursion IsGiven y) (sym is) both
with_line_gives n (Ok (Some x)) (Err f) ss one all h = cc

lines_give : (n : ℕ) (ls : List (List ℕ)) (ss : List Statement) → AreScalars ls → lines_from OfStore n ls ≡ Ok ss → AllByRecursion IsGiven ss
lines_give n [] ss a h = let is : ss ≡ [] = cc in subst (λ (y : List Statement). AllByRecursion IsGiven y) (sym is) tt
lines_give n (l ∷ ls) ss a h = with_line_gives n (line OfStore l) (lines_from OfStore (number_after n l) ls) ss (λ x e. line_gives l x a.0 e) (λ us e. lines_give (number_after n l) ls us a.1 e) h

-- so their triples can be read again
subject_stands : (n : Node) (ls : List (List ℕ)) → IsSubjectNode n → IsReadableSubject IsStored (term_of 1 1 ls n)
subject_stands (Labelled l) ls g = absurd g
subject_stands (Plain t) ls g = g

object_stands : (n : Node) (ls : List (List ℕ)) → IsObjectNode n → IsReadableObject IsStored (term_of 1 1 ls n)
object_stands (Labelled l) ls g = absurd g
object_stands (Plain t) ls g = g

all_stand : (ss : List Statement) (ls : List (List ℕ)) → AllByRecursion IsGiven ss → AllByRecursion (IsReadable IsStored) (map (triple_of 1 1 ls) ss)
all_stand [] ls g = tt
all_stand (x ∷ ss) ls g =
    let one : IsReadable IsStored (triple_of 1 1 ls x) = record { subject = subject_stands x.subject ls g.0.subject; predicate = g.0.predicate; object = object_stands x.object ls g.0.object } in
    (one, all_stand ss ls g.1)

-- the same of the set of the triples
item_stands : (P : Triple → Type 0) (t : Triple) (ts : List Triple) → P t → AllByRecursion P ts → AllByRecursion P (with_item triple_cmp t ts)
item_stands P t [] r a = (r, tt)
item_stands P t (u ∷ ts) r a = elim (triple_cmp t u) as (λ o. AllByRecursion P (match_ordering o (t ∷ u ∷ ts) (u ∷ ts) (u ∷ with_item triple_cmp t ts))) [
  | Less ↦ (r, a)
  | Equal ↦ a
  | Greater ↦ (a.0, item_stands P t ts r a.1)
]

each_stands : (P : Triple → Type 0) (ts g : List Triple) → AllByRecursion P ts → AllByRecursion P g → AllByRecursion P (with_each g ts)
each_stands P [] g r a = a
each_stands P (t ∷ ts) g r a = each_stands P ts (with_item triple_cmp t g) r.1 (item_stands P t g r.0 a)

-- what is read is a graph that a text can give
reading_gives : (ts : List Triple) (r : Result (List Statement) (ℕ × RefusalKind)) → ((ss : List Statement) → r ≡ Ok ss → AllByRecursion IsGiven ss) → triples_of (numbered 1 1 r) ≡ Ok ts → IsReadableGraph ts
reading_gives ts (Ok ss) g h =
    let us = map (triple_of 1 1 (once (all_labels ss))) ss in
    let is : with_each [] us ≡ ts = cc in
    subst (λ (x : List Triple). IsReadableGraph x) is (each_stands (IsReadable IsStored) us [] (all_stand ss (once (all_labels ss)) (g ss refl)) tt, each_ascends us [] tt)
reading_gives ts (Err f) g h = cc

pub gives_readable_graph : (bytes : List ℕ) (ts : List Triple) → reads_named bytes ≡ Ok ts → IsReadableGraph ts
gives_readable_graph bytes ts h =
    let reading = lines_from OfStore 1 (lines (chars bytes)) in
    elim (is_utf8 bytes) as (λ b. is_utf8 bytes ≡ b → triples_of (cond b (numbered 1 1 reading) (Err (line_of bytes (utf8_valid_len bytes), NotUtf8))) ≡ Ok ts → IsReadableGraph ts) [
      | true ↦ λ u k. reading_gives ts reading (λ ss e. lines_give 1 (lines (chars bytes)) ss (lines_scalars (chars bytes) (scalars-chars bytes (IsUtf8-from_is_utf8 bytes u))) e) k
      | false ↦ λ u k. cc
    ] refl h
