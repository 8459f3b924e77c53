-- What a text gives can be written and read again, but for its blank nodes, which have the numbers of its labels.
use Rattle.std.proofs.Common.{◌≡◌, ◌∙◌, ℕ, zero, suc, ◌+◌, ◌<◌, ◌≤◌, Bool, true, false, cond, not, ◌||◌, List, [], ◌∷◌, ◌++◌, map, length, take, drop, Option, Some, None, Result, Ok, Err, refl, sym, ap, subst, eqb, arith}
use Rattle.std.specs.Prelude.{bytes_eq, replicate}
use Rattle.std.specs.List.{AllByRecursion, list_all, list_any, position_or_len, onto_first}
use Rattle.std.specs.Str.{IsUtf8, is_utf8, chars}
use Rattle.std.specs.Str.Lossy.{utf8_valid_len}
use Rattle.std.proofs.lemmas.Str.{chars-encodes, scalars-chars, IsUtf8-from_is_utf8}
use Rattle.std.proofs.lemmas.Bool.Decides.{nat_tests}
use Rattle.std.proofs.lemmas.Bool.{and_parts, and_from}
use Rattle.std.specs.Ordering.{match_ordering}
use Rattle.std.specs.declared.cmp.Ordering.TheVariants.{Less, Equal, Greater}
use lib.Utf8.{encodes, encode, scalars, scalar}
use Rattle.rdf_lexical.specs.declared.quoting.Quotes.TheVariants.{Double}
use Rattle.rdf_lexical.specs.declared.enclosing.Enclosed.{Enclosed}
use Rattle.rdf_lexical.specs.declared.enclosing.Enclosed.TheVariants as enclosed
use Rattle.rdf_lexical.specs.Characters.{is_within, is_iri_char, is_line_end}
use Rattle.rdf_lexical.specs.Enclosed.{mark, closing_length}
use Rattle.rdf_lexical.specs.Meanings.{inner, unescaped, lower_case, lower_text}
use Rattle.rdf_lexical.specs.Productions.{joined_texts, IsEnclosed, IsLanguageTag}
use Rattle.rdf_lexical.proofs.LowerTags.{lower_tag}
pub use Rattle.rdf_lexical.proofs.Spelled.{scalars_drop, scalars_take}
use Rattle.rdf_lexical.proofs.Contents.{may_stand_for, scalars_parts, pieces_value}
use Rattle.iri_ref.specs.Scheme.{has_scheme}
use Rattle.collections.specs.Ordered.{IsAscending, with_item}
use Rattle.rdf_model.specs.declared.term.Term.{Term}
use Rattle.rdf_model.specs.declared.term.Term.TheVariants.{Blank, Iri, Literal}
use Rattle.rdf_model.specs.declared.triple.Triple.{Triple}
use Rattle.rdf_model.specs.Terms.{triple_cmp}
use Rattle.rdf_model.specs.Graphs.{with_each}
use Rattle.rdf_model.specs.NTriples.{xsd_string}
use Rattle.rdf_lexical.specs.declared.refusal.RefusalKind.{RefusalKind}
use Rattle.rdf_lexical.specs.declared.refusal.RefusalKind.TheVariants.{NotUtf8, RelativeIri}
use Rattle.ntriples_text.specs.declared.lexeme.TokenKind.{TokenKind}
use Rattle.ntriples_text.specs.declared.lexeme.TokenKind.TheVariants as kinds
use Rattle.ntriples_text.specs.declared.token.Token.{Token}
use Rattle.ntriples_text.specs.declared.token.Token.TheVariants.{IriRef, Quoted, Label, LanguageTag, Carets, Dot, LineEnd, TextEnd}
use Rattle.ntriples_text.specs.declared.statement.Node.{Node}
use Rattle.ntriples_text.specs.declared.statement.Node.TheVariants.{Labelled, Plain}
use Rattle.ntriples_text.specs.declared.statement.LabelKind.TheVariants.{OfText}
use Rattle.ntriples_text.specs.declared.statement.Statement.{Statement}
use Rattle.rdf_lexical.specs.Refusals.{◌>>=◌}
use Rattle.ntriples_text.specs.Tokens.{Lexeme, is_blank, from_line_end, skipped, lexeme, token_of, token_at, token}
use Rattle.ntriples_text.specs.Productions.{IsToken}
use Rattle.literal_order.specs.Values.{reading, profile}
use Rattle.literal_order.specs.Datatypes.{datatype_of, local_datatype}
use Rattle.ntriples_text.specs.Grammar.{rdf_lang_string, kept, iri_of, iri, node_of, predicate_of, predicate, literal, literal_at, literal_from, object_at, object, dot, is_end, end, statement_from, line}
use Rattle.ntriples_text.specs.Blanks.{node_labels, statement_labels, all_labels, once, term_of, triple_of}
use Rattle.ntriples_text.specs.Document.{lines, lines_from, number_after, with_line, with_labels, numbered, line_of}
use Rattle.ntriples_text.specs.Progress.{with_more}
use Rattle.ntriples_text.specs.Laws.{IsIriText, IsTagChars, IsReadableSubject, IsReadableObject, IsReadable, IsNone, IsWithin, GivesReadable}
use Rattle.ntriples_text.proofs.Sorting.{each_ascends}
use Rattle.ntriples_text.proofs.Lexemes.{IsFound, token_found}
use Rattle.ntriples_text.proofs.ReadAgain.{inner_one}
use Rattle.ntriples_text.proofs.Numbers.{Texts, IsNumbered, numbered_more, node_numbered, more_twice, once_all}

-- a token whose text is read again, before characters
abbrev IsTokenOf : Token → List ℕ → Type 0
IsTokenOf (IriRef a) rest = IsUtf8 a × (list_all is_iri_char (chars a) ≡ true) × (scalars rest ≡ true)
IsTokenOf (Quoted l) rest = IsUtf8 l × (scalars rest ≡ true)
IsTokenOf (LanguageTag t) rest = IsUtf8 t × IsTagChars (chars t) × (scalars rest ≡ true)
IsTokenOf (Label l) rest = scalars rest ≡ true
IsTokenOf Carets rest = scalars rest ≡ true
IsTokenOf Dot rest = scalars rest ≡ true
IsTokenOf LineEnd rest = scalars rest ≡ true
IsTokenOf TextEnd rest = scalars rest ≡ true

is_token : (t u : Token × List ℕ) → t ≡ u → IsTokenOf u.0 u.1 → IsTokenOf t.0 t.1
is_token t u is h = subst (λ (x : Token × List ℕ). IsTokenOf x.0 x.1) (sym is) h

-- a reading of two steps that succeeds
bind_ok : {A B : Type 0} (r : Result A RefusalKind) (f : A → Result B RefusalKind) (y : B) → (r >>= f) ≡ Ok y → (x : A) × (r ≡ Ok x) × (f x ≡ Ok y)
bind_ok (Ok x) f y h = (x, refl, h)
bind_ok (Err k) f y h = cc

lower_scalar : (c : ℕ) → scalar c ≡ true → scalar (lower_case c) ≡ true
lower_scalar c h = elim (is_within 65 90 c) as (λ b. is_within 65 90 c ≡ b → scalar (cond b (c + 32) c) ≡ true) [ true ↦ λ q. grind (arith, nat_tests) | false ↦ λ q. h ] refl

not_upper : (c : ℕ) → is_within 65 90 c ≡ true → is_within 65 90 (c + 32) ≡ false
not_upper c h = grind (arith, nat_tests)

lower_twice : (c : ℕ) → lower_case (lower_case c) ≡ lower_case c
lower_twice c = elim (is_within 65 90 c) as (λ b. is_within 65 90 c ≡ b → lower_case (cond b (c + 32) c) ≡ cond b (c + 32) c) [
  | true ↦ λ q. ap (λ b. cond b ((c + 32) + 32) (c + 32)) (not_upper c q)
  | false ↦ λ q. ap (λ b. cond b (c + 32) c) q
] refl

lower_all : (cs : List ℕ) → map lower_case (map lower_case cs) ≡ map lower_case cs
lower_all [] = refl
lower_all (c ∷ cs) = ap (λ x. x ∷ map lower_case (map lower_case cs)) (lower_twice c) ∙ ap (λ xs. lower_case c ∷ xs) (lower_all cs)

lower_scalars : (cs : List ℕ) → scalars cs ≡ true → scalars (map lower_case cs) ≡ true
lower_scalars [] s = refl
lower_scalars (c ∷ cs) s = let p = and_parts (scalar c) (scalars cs) s in and_from (scalar (lower_case c)) (scalars (map lower_case cs)) (lower_scalar c p.0) (lower_scalars cs p.1)

-- what stands between one character on each side
abbrev pub IsBody : Enclosed → List ℕ → Type 0
IsBody e a = IsUtf8 a × (list_all (may_stand_for e) (chars a) ≡ true)

pub body_of : (e : Enclosed) (a : ℕ) (t b : List ℕ) → closing_length e ≡ 1 → t ≡ a ∷ b → scalars t ≡ true → IsEnclosed e b → IsBody e (unescaped 0 (inner 1 t))
body_of e a t b one is s (ps, f, all) =
    let js = joined_texts ps in
    let close : replicate (closing_length e) (mark e) ≡ mark e ∷ [] = ap (λ n. replicate n (mark e)) one in
    let whole : t ≡ a ∷ (js ++ mark e ∷ []) = is ∙ ap (λ x. a ∷ x) (f ∙ ap (λ x. js ++ x) close) in
    let all_scalars : scalars (a ∷ (js ++ mark e ∷ [])) ≡ true = subst (λ (x : List ℕ). scalars x ≡ true) whole s in
    let inside = (scalars_parts js (mark e ∷ []) ((and_parts (scalar a) (scalars (js ++ mark e ∷ [])) all_scalars).1)).0 in
    let v = pieces_value e ps one all inside in
    let text : unescaped 0 (inner 1 t) ≡ encodes v.0 = ap (λ x. unescaped 0 (inner 1 x)) whole ∙ ap (unescaped 0) (inner_one a (mark e) js) ∙ v.1 in
    let same : chars (encodes v.0) ≡ v.0 = chars-encodes v.0 v.3 in
    let body : IsBody e (encodes v.0) = ((v.0, (v.3, refl)), ap (list_all (may_stand_for e)) same ∙ v.2) in
    subst (λ (x : List ℕ). IsBody e x) (sym text) body

pub tag_of : (t : List ℕ) → scalars t ≡ true → IsLanguageTag t → IsUtf8 (lower_text (drop 1 t)) × IsTagChars (chars (lower_text (drop 1 t)))
tag_of t s (l, ts, is, some, all) =
    let y = l ++ joined_texts ts in
    let rest : drop 1 t ≡ y = ap (drop 1) is in
    let whole : scalars (64 ∷ y) ≡ true = subst (λ (x : List ℕ). scalars x ≡ true) is s in
    let are : scalars (map lower_case y) ≡ true = lower_scalars y ((and_parts (scalar 64) (scalars y) whole).1) in
    let tag : IsTagChars (map lower_case y) = (lower_tag y (l, ts, refl, some, all), lower_all y) in
    let utf8 : IsUtf8 (encodes (map lower_case y)) = (map lower_case y, (are, refl)) in
    let both : IsUtf8 (lower_text y) × IsTagChars (chars (lower_text y)) = (utf8, subst (λ (xs : List ℕ). IsTagChars xs) (sym (chars-encodes (map lower_case y) are)) tag) in
    subst (λ (x : List ℕ). IsUtf8 (lower_text x) × IsTagChars (chars (lower_text x))) (sym rest) both

token_means : (k : TokenKind) (t rest : List ℕ) → scalars t ≡ true → scalars rest ≡ true → IsToken k t → IsTokenOf (token_of k t) rest
token_means kinds.IriRef t rest s r (b, e, body) = let a = body_of enclosed.Iri 60 t b refl e s body in (a.0, a.1, r)
token_means kinds.StringLiteral t rest s r (b, e, body) = let a = body_of (enclosed.Text Double) 34 t b refl e s body in (a.0, r)
token_means kinds.BlankNodeLabel t rest s r h = r
token_means kinds.LanguageTag t rest s r h = let a = tag_of t s h in (a.0, a.1, r)
token_means kinds.Carets t rest s r h = r
token_means kinds.Dot t rest s r h = r
token_means kinds.LineEnd t rest s r h = r

by_lexeme : (cs : List ℕ) (r : Lexeme) (t : Token × List ℕ) → scalars cs ≡ true → IsFound r cs → (r >>= λ p. Ok (token_of p.0 (take p.1 cs), drop p.1 cs)) ≡ Ok t → IsTokenOf t.0 t.1
by_lexeme cs (Ok p) t s found h = is_token t (token_of p.0 (take p.1 cs), drop p.1 cs) (cc) (token_means p.0 (take p.1 cs) (drop p.1 cs) (scalars_take p.1 cs s) (scalars_drop p.1 cs s) found.0)
by_lexeme cs (Err k) t s found h = cc

token_from : (cs : List ℕ) (t : Token × List ℕ) → scalars cs ≡ true → token_at cs ≡ Ok t → IsTokenOf t.0 t.1
token_from [] t s h = is_token t (TextEnd, []) (cc) refl
token_from (c ∷ cs) t s h = by_lexeme (c ∷ cs) (lexeme (c ∷ cs)) t s (token_found (c ∷ cs)) h

comment_scalars : (cs : List ℕ) → scalars cs ≡ true → scalars (from_line_end cs) ≡ true
comment_scalars [] s = refl
comment_scalars (c ∷ cs) s = elim (is_line_end c) as (λ b. scalars (cond b (c ∷ cs) (from_line_end cs)) ≡ true) [ true ↦ s | false ↦ comment_scalars cs ((and_parts (scalar c) (scalars cs) s).1) ]

skipped_scalars : (cs : List ℕ) → scalars cs ≡ true → scalars (skipped cs) ≡ true
skipped_scalars [] s = refl
skipped_scalars (c ∷ cs) s =
    let p = and_parts (scalar c) (scalars cs) s in
    elim (is_blank c) as (λ b. scalars (cond b (skipped cs) (cond (eqb c 35) (from_line_end cs) (c ∷ cs))) ≡ true) [
      | true ↦ skipped_scalars cs p.1
      | false ↦ elim (eqb c 35) as (λ b. scalars (cond b (from_line_end cs) (c ∷ cs)) ≡ true) [ true ↦ comment_scalars cs p.1 | false ↦ s ]
    ]

token_gives : (cs : List ℕ) (t : Token × List ℕ) → scalars cs ≡ true → token cs ≡ Ok t → IsTokenOf t.0 t.1
unfolding token
token_gives cs t s h = token_from (skipped cs) t (skipped_scalars cs s) h

token_scalars : (t : Token) (rest : List ℕ) → IsTokenOf t rest → scalars rest ≡ true
token_scalars (IriRef a) rest h = h.2
token_scalars (Quoted l) rest h = h.1
token_scalars (LanguageTag t) rest h = h.2
token_scalars (Label l) rest h = h
token_scalars Carets rest h = h
token_scalars Dot rest h = h
token_scalars LineEnd rest h = h
token_scalars TextEnd rest h = h

iri_of_gives : (t : Token) (rest a : List ℕ) → IsTokenOf t rest → iri_of t ≡ Ok a → IsIriText a
iri_of_gives (IriRef x) rest a h e = elim (has_scheme x) as (λ b. has_scheme x ≡ b → cond b (Ok x) (Err RelativeIri) ≡ Ok a → IsIriText a) [
  | true ↦ λ q k. let is : a ≡ x = cc in let read : IsIriText x = (h.0, h.1, q) in subst (λ (y : List ℕ). IsIriText y) (sym is) read
  | false ↦ λ q k. cc
] refl e
iri_of_gives (Quoted l) rest a h e = cc
iri_of_gives (Label l) rest a h e = cc
iri_of_gives (LanguageTag l) rest a h e = cc
iri_of_gives Carets rest a h e = cc
iri_of_gives Dot rest a h e = cc
iri_of_gives LineEnd rest a h e = cc
iri_of_gives TextEnd rest a h e = cc

-- a reading of a text and what is left
abbrev IsRead : {X : Type 0} → (X → Type 0) → X × List ℕ → Type 0
IsRead P r = P r.0 × (scalars r.1 ≡ true)

iri_gives : (cs : List ℕ) (r : List ℕ × List ℕ) → scalars cs ≡ true → iri cs ≡ Ok r → IsRead IsIriText r
unfolding iri
iri_gives cs r s h =
    let b = bind_ok (token cs) (λ t. iri_of t.0 >>= λ a. Ok (a, t.1)) r h in
    let t = token_gives cs b.0 s b.1 in
    let d = bind_ok (iri_of b.0.0) (λ a. Ok (a, b.0.1)) r b.2 in
    let k = d.2 in
    let is : r ≡ (d.0, b.0.1) = cc in
    let both : IsRead IsIriText (d.0, b.0.1) = (iri_of_gives b.0.0 b.0.1 d.0 t d.1, token_scalars b.0.0 b.0.1 t) in
    subst (λ (x : List ℕ × List ℕ). IsRead IsIriText x) (sym is) both

predicate_of_gives : (t : Token) (rest a : List ℕ) → IsTokenOf t rest → predicate_of t ≡ Ok a → IsIriText a
predicate_of_gives (IriRef x) rest a h e = iri_of_gives (IriRef x) rest a h e
predicate_of_gives (Quoted l) rest a h e = cc
predicate_of_gives (Label l) rest a h e = cc
predicate_of_gives (LanguageTag l) rest a h e = cc
predicate_of_gives Carets rest a h e = cc
predicate_of_gives Dot rest a h e = cc
predicate_of_gives LineEnd rest a h e = cc
predicate_of_gives TextEnd rest a h e = cc

predicate_gives : (cs : List ℕ) (r : List ℕ × List ℕ) → scalars cs ≡ true → predicate cs ≡ Ok r → IsRead IsIriText r
unfolding predicate
predicate_gives cs r s h =
    let b = bind_ok (token cs) (λ t. predicate_of t.0 >>= λ a. Ok (a, t.1)) r h in
    let t = token_gives cs b.0 s b.1 in
    let d = bind_ok (predicate_of b.0.0) (λ a. Ok (a, b.0.1)) r b.2 in
    let k = d.2 in
    let is : r ≡ (d.0, b.0.1) = cc in
    let both : IsRead IsIriText (d.0, b.0.1) = (predicate_of_gives b.0.0 b.0.1 d.0 t d.1, token_scalars b.0.0 b.0.1 t) in
    subst (λ (x : List ℕ × List ℕ). IsRead IsIriText x) (sym is) both

-- nodes that are terms which can stand there
abbrev IsSubjectNode : Node → Type 0
IsSubjectNode (Labelled l) = Unit {0}
IsSubjectNode (Plain t) = IsReadableSubject IsNone t

abbrev IsObjectNode : Node → Type 0
IsObjectNode (Labelled l) = Unit {0}
IsObjectNode (Plain t) = IsReadableObject IsNone t

record IsGiven (s : Statement) : Type 0 where
  subject : IsSubjectNode s.subject
  predicate : IsIriText s.predicate
  object : IsObjectNode s.object

iri_node : (x rest : List ℕ) (n : Node) → IsTokenOf (IriRef x) rest → node_of OfText (IriRef x) ≡ Ok n → (a : List ℕ) × IsIriText a × (n ≡ Plain (Iri a))
iri_node x rest n h e =
    let b = bind_ok (iri_of (IriRef x)) (λ a. Ok (Plain (Iri a))) n e in
    let k = b.2 in
    let is : n ≡ Plain (Iri b.0) = cc in
    (b.0, iri_of_gives (IriRef x) rest b.0 h b.1, is)

node_gives : (t : Token) (rest : List ℕ) (n : Node) → IsTokenOf t rest → node_of OfText t ≡ Ok n → IsSubjectNode n
node_gives (IriRef x) rest n h e = let g = iri_node x rest n h e in let read : IsSubjectNode (Plain (Iri g.0)) = g.1 in subst (λ (y : Node). IsSubjectNode y) (sym g.2) read
node_gives (Label l) rest n h e = let is : n ≡ Labelled l = cc in let read : IsSubjectNode (Labelled l) = tt in subst (λ (y : Node). IsSubjectNode y) (sym is) read
node_gives (Quoted l) rest n h e = cc
node_gives (LanguageTag l) rest n h e = cc
node_gives Carets rest n h e = cc
node_gives Dot rest n h e = cc
node_gives LineEnd rest n h e = cc
node_gives TextEnd rest n h e = cc

xsd_string_iri : IsIriText xsd_string
unfolding encode
xsd_string_iri =
    let utf8 : IsUtf8 xsd_string = (xsd_string, (refl, refl)) in
    let same : chars xsd_string ≡ xsd_string = chars-encodes xsd_string refl in
    (utf8, ap (list_all is_iri_char) same, refl)

typed_gives : (l d : List ℕ) (x : Term) → literal l d ≡ Ok x → x ≡ Literal l d None
typed_gives l d x h = elim (profile (Literal l d None)) as (λ o. kept o (Literal l d None) ≡ Ok x → x ≡ Literal l d None) [ None ↦ λ e. cc | Some n ↦ λ e. cc ] h

abbrev IsObject : Term × List ℕ → Type 0
IsObject r = IsRead (IsReadableObject IsNone) r

plain_kept : (l : List ℕ) → literal l xsd_string ≡ Ok (Literal l xsd_string None)
unfolding reading datatype_of local_datatype
plain_kept l = refl

plain_gives : (l cs : List ℕ) (r : Term × List ℕ) → IsUtf8 l → scalars cs ≡ true → r ≡ (Literal l xsd_string None, cs) → IsObject r
plain_gives l cs r u s is =
    let both : IsObject (Literal l xsd_string None, cs) = ((u, xsd_string_iri, plain_kept l), s) in
    subst (λ (x : Term × List ℕ). IsObject x) (sym is) both

literal_gives : (l : List ℕ) (t : Token) (rest cs : List ℕ) (r : Term × List ℕ) → IsUtf8 l → scalars cs ≡ true → IsTokenOf t rest → literal_at l cs (t, rest) ≡ Ok r → IsObject r
literal_gives l Carets rest cs r u s h e =
    let b = bind_ok (iri rest) (λ d. literal l d.0 >>= λ term. Ok (term, d.1)) r e in
    let d = iri_gives rest b.0 h b.1 in
    let k = bind_ok (literal l b.0.0) (λ term. Ok (term, b.0.1)) r b.2 in
    let term = typed_gives l b.0.0 k.0 k.1 in
    let kept : literal l b.0.0 ≡ Ok (Literal l b.0.0 None) = k.1 ∙ ap (λ x. Ok x) term in
    let j = k.2 in
    let is : r ≡ (Literal l b.0.0 None, b.0.1) = cc in
    let both : IsObject (Literal l b.0.0 None, b.0.1) = ((u, d.0, kept), d.1) in
    subst (λ (x : Term × List ℕ). IsObject x) (sym is) both
literal_gives l (LanguageTag tag) rest cs r u s h e =
    let is : r ≡ (Literal l rdf_lang_string (Some tag), rest) = cc in
    let both : IsObject (Literal l rdf_lang_string (Some tag), rest) = ((u, refl, h.0, h.1), h.2) in
    subst (λ (x : Term × List ℕ). IsObject x) (sym is) both
literal_gives l (IriRef x) rest cs r u s h e = plain_gives l cs r u s cc
literal_gives l (Quoted x) rest cs r u s h e = plain_gives l cs r u s cc
literal_gives l (Label x) rest cs r u s h e = plain_gives l cs r u s cc
literal_gives l Dot rest cs r u s h e = plain_gives l cs r u s cc
literal_gives l LineEnd rest cs r u s h e = plain_gives l cs r u s cc
literal_gives l TextEnd rest cs r u s h e = plain_gives l cs r u s cc

string_gives : (l cs : List ℕ) (r : Term × List ℕ) → IsUtf8 l → scalars cs ≡ true → literal_from l cs ≡ Ok r → IsObject r
unfolding literal_from
string_gives l cs r u s h = let b = bind_ok (token cs) (literal_at l cs) r h in literal_gives l b.0.0 b.0.1 cs r u s (token_gives cs b.0 s b.1) b.2

abbrev IsNodeRead : Node × List ℕ → Type 0
IsNodeRead r = IsRead IsObjectNode r

object_from : (t : Token) (rest : List ℕ) (r : Node × List ℕ) → IsTokenOf t rest → object_at OfText (t, rest) ≡ Ok r → IsNodeRead r
object_from (Quoted l) rest r h e =
    let b = bind_ok (literal_from l rest) (λ x. Ok (Plain x.0, x.1)) r e in
    let g = string_gives l rest b.0 h.0 h.1 b.1 in
    let k = b.2 in
    let is : r ≡ (Plain b.0.0, b.0.1) = cc in
    let both : IsNodeRead (Plain b.0.0, b.0.1) = (g.0, g.1) in
    subst (λ (x : Node × List ℕ). IsNodeRead x) (sym is) both
object_from (IriRef x) rest r h e =
    let b = bind_ok (node_of OfText (IriRef x)) (λ n. Ok (n, rest)) r e in
    let g = iri_node x rest b.0 h b.1 in
    let k = b.2 in
    let is : r ≡ (b.0, rest) = cc in
    let read : IsObjectNode (Plain (Iri g.0)) = g.1 in
    let both : IsNodeRead (b.0, rest) = (subst (λ (y : Node). IsObjectNode y) (sym g.2) read, h.2) in
    subst (λ (y : Node × List ℕ). IsNodeRead y) (sym is) both
object_from (Label l) rest r h e =
    let is : r ≡ (Labelled l, rest) = cc in
    let both : IsNodeRead (Labelled l, rest) = (tt, h) in
    subst (λ (y : Node × List ℕ). IsNodeRead y) (sym is) both
object_from (LanguageTag l) rest r h e = cc
object_from Carets rest r h e = cc
object_from Dot rest r h e = cc
object_from LineEnd rest r h e = cc
object_from TextEnd rest r h e = cc

object_gives : (cs : List ℕ) (r : Node × List ℕ) → scalars cs ≡ true → object OfText cs ≡ Ok r → IsNodeRead r
unfolding object
object_gives cs r s h = let b = bind_ok (token cs) (object_at OfText) r h in object_from b.0.0 b.0.1 r (token_gives cs b.0 s b.1) b.2

statement_gives : (t : Token) (rest : List ℕ) (x : Statement) → IsTokenOf t rest → statement_from OfText (t, rest) ≡ Ok x → IsGiven x
unfolding statement_from
statement_gives t rest x h e =
    let s = bind_ok (node_of OfText t) _ x e in
    let p = bind_ok (predicate rest) _ x s.2 in
    let o = bind_ok (object OfText p.0.1) _ x p.2 in
    let d = bind_ok (dot o.0.1) _ x o.2 in
    let n = bind_ok (end d.0) _ x d.2 in
    let predicate = predicate_gives rest p.0 (token_scalars t rest h) p.1 in
    let object = object_gives p.0.1 o.0 predicate.1 o.1 in
    let made : Statement = record { subject = s.0; predicate = p.0.0; object = o.0.0 } in
    let k : Ok made ≡ Ok x = n.2 in
    let is : x ≡ made = cc in
    let read : IsGiven made = record { subject = node_gives t rest s.0 h s.1; predicate = predicate.0; object = object.0 } in
    subst (λ (y : Statement). IsGiven y) (sym is) read

line_gives : (cs : List ℕ) (x : Statement) → scalars cs ≡ true → line OfText cs ≡ Ok (Some x) → IsGiven x
unfolding line
line_gives cs x s h =
    let b = bind_ok (token cs) (λ t. cond (is_end t.0) (Ok None) (statement_from OfText t >>= λ y. Ok (Some y))) (Some x) h in
    let t = token_gives cs b.0 s b.1 in
    elim (is_end b.0.0) as (λ q. cond q (Ok None) (statement_from OfText b.0 >>= λ y. Ok (Some y)) ≡ Ok (Some x) → IsGiven x) [
      | true ↦ λ k. cc
      | false ↦ λ k. let d = bind_ok (statement_from OfText b.0) (λ y. Ok (Some y)) (Some x) k in
          let j = d.2 in
          let is : d.0 ≡ x = cc in
          subst (λ (y : Statement). IsGiven y) is (statement_gives b.0.0 b.0.1 d.0 t d.1)
    ] b.2

-- the lines of characters
abbrev AreScalars : List (List ℕ) → Type 0
AreScalars ls = AllByRecursion (λ l. scalars l ≡ true) ls

onto_scalars : (c : ℕ) (ls : List (List ℕ)) → scalar c ≡ true → AreScalars ls → AreScalars (onto_first c ls)
onto_scalars c [] s a = (and_from (scalar c) true s refl, tt)
onto_scalars c (l ∷ ls) s a = (and_from (scalar c) (scalars l) s a.0, a.1)

lines_scalars : (cs : List ℕ) → scalars cs ≡ true → AreScalars (lines cs)
lines_scalars [] s = tt
lines_scalars (c ∷ cs) s =
    let p = and_parts (scalar c) (scalars cs) s in
    let more = lines_scalars cs p.1 in
    elim (is_line_end c) as (λ b. AreScalars (cond b ((c ∷ []) ∷ lines cs) (onto_first c (lines cs)))) [
      | true ↦ (and_from (scalar c) true p.0 refl, more)
      | false ↦ onto_scalars c (lines cs) p.0 more
    ]

with_line_gives : (n : ℕ) (r : Result (Option Statement) RefusalKind) (more : Result (List Statement) (ℕ × RefusalKind)) (ss : List Statement)
    → ((x : Statement) → r ≡ Ok (Some x) → IsGiven x) → ((us : List Statement) → more ≡ Ok us → AllByRecursion IsGiven us) → with_line n r more ≡ Ok ss → AllByRecursion IsGiven ss
with_line_gives n (Err k) more ss one all h = cc
with_line_gives n (Ok None) more ss one all h = all ss h
with_line_gives n (Ok (Some x)) (Ok us) ss one all h =
    let is : ss ≡ x ∷ us = cc in
    let both : AllByRecursion IsGiven (x ∷ us) = (one x refl, all us refl) in
    subst (λ (y : List Statement). AllByRecursion IsGiven y) (sym is) both
with_line_gives n (Ok (Some x)) (Err f) ss one all h = cc

lines_give : (n : ℕ) (ls : List (List ℕ)) (ss : List Statement) → AreScalars ls → lines_from OfText n ls ≡ Ok ss → AllByRecursion IsGiven ss
lines_give n [] ss a h = let is : ss ≡ [] = cc in subst (λ (y : List Statement). AllByRecursion IsGiven y) (sym is) tt
lines_give n (l ∷ ls) ss a h = with_line_gives n (line OfText l) (lines_from OfText (number_after n l) ls) ss (λ x e. line_gives l x a.0 e) (λ us e. lines_give (number_after n l) ls us a.1 e) h

-- their labels have places
abbrev AreNumbered : Texts → Statement → Type 0
AreNumbered known s = IsNumbered known s.subject × IsNumbered known s.object

statement_numbered : (known ls : Texts) (x : Statement) → AreNumbered (with_more (with_more known (statement_labels x)) ls) x
statement_numbered known ls x =
    let first = with_more known (node_labels x.subject) in
    let now = with_more first (node_labels x.object) in
    let subject : IsNumbered now x.subject = numbered_more first (node_labels x.object) x.subject (node_numbered known x.subject) in
    let object : IsNumbered now x.object = node_numbered first x.object in
    let both : AreNumbered (with_more now ls) x = (numbered_more now ls x.subject subject, numbered_more now ls x.object object) in
    subst (λ (k : Texts). AreNumbered (with_more k ls) x) (sym (more_twice (node_labels x.subject) (node_labels x.object) known)) both

all_numbered : (ss : List Statement) (known all : Texts) → all ≡ with_more known (all_labels ss) → AllByRecursion (AreNumbered all) ss
all_numbered [] known all e = tt
all_numbered (x ∷ ss) known all e =
    let now = with_more known (statement_labels x) in
    let is : all ≡ with_more now (all_labels ss) = e ∙ more_twice (statement_labels x) (all_labels ss) known in
    (subst (λ (k : Texts). AreNumbered k x) (sym is) (statement_numbered known (all_labels ss) x), all_numbered ss now all is)

place_below : {X : Type 0} (p : X → Bool) (xs : List X) → list_any p xs ≡ true → position_or_len p xs < length xs
place_below p [] h = absurd (let bad : false ≡ true = h in cc)
place_below p (x ∷ xs) h = elim (p x) as (λ b. (b || list_any p xs) ≡ true → cond (not b) (1 + position_or_len p xs) 0 < suc (length xs)) [
  | true ↦ λ k. omega arith
  | false ↦ λ k. omega (arith, place_below p xs k)
] h

-- so their triples can be read again
subject_stands : (session first : ℕ) (all : Texts) (n : Node) → IsSubjectNode n → IsNumbered all n → IsReadableSubject (IsWithin session first (first + length all)) (term_of session first all n)
subject_stands session first all (Labelled l) g k = let lt = place_below (bytes_eq l) all k in (refl, omega arith, omega (arith, lt))
subject_stands session first all (Plain (Iri a)) g k = g
subject_stands session first all (Plain (Blank s n)) g k = absurd g
subject_stands session first all (Plain (Literal l d t)) g k = absurd g

object_stands : (session first : ℕ) (all : Texts) (n : Node) → IsObjectNode n → IsNumbered all n → IsReadableObject (IsWithin session first (first + length all)) (term_of session first all n)
object_stands session first all (Labelled l) g k = let lt = place_below (bytes_eq l) all k in (refl, omega arith, omega (arith, lt))
object_stands session first all (Plain (Iri a)) g k = g
object_stands session first all (Plain (Blank s n)) g k = absurd g
object_stands session first all (Plain (Literal l d None)) g k = g
object_stands session first all (Plain (Literal l d (Some t))) g k = g

abbrev Stands : ℕ → ℕ → Texts → Triple → Type 0
Stands session first all t = IsReadable (IsWithin session first (first + length all)) t

all_stand : (session first : ℕ) (all : Texts) (ss : List Statement) → AllByRecursion IsGiven ss → AllByRecursion (AreNumbered all) ss → AllByRecursion (Stands session first all) (map (triple_of session first all) ss)
all_stand session first all [] g k = tt
all_stand session first all (x ∷ ss) g k =
    let one : Stands session first all (triple_of session first all x) =
    record { subject = subject_stands session first all x.subject g.0.subject k.0.0; predicate = g.0.predicate; object = object_stands session first all x.object g.0.object k.0.1 } in
    (one, all_stand session first all ss g.1 k.1)

-- the same of the set of the triples
item_stands : (P : Triple → Type 0) (t : Triple) (ts : List Triple) → P t → AllByRecursion P ts → AllByRecursion P (with_item triple_cmp t ts)
item_stands P t [] r a = (r, tt)
item_stands P t (u ∷ ts) r a = elim (triple_cmp t u) as (λ o. AllByRecursion P (match_ordering o (t ∷ u ∷ ts) (u ∷ ts) (u ∷ with_item triple_cmp t ts))) [
  | Less ↦ (r, a)
  | Equal ↦ a
  | Greater ↦ (a.0, item_stands P t ts r a.1)
]

each_stands : (P : Triple → Type 0) (ts g : List Triple) → AllByRecursion P ts → AllByRecursion P g → AllByRecursion P (with_each g ts)
each_stands P [] g r a = a
each_stands P (t ∷ ts) g r a = each_stands P ts (with_item triple_cmp t g) r.1 (item_stands P t g r.0 a)

-- what is given at its end
abbrev IsResult : ℕ → ℕ → List Triple × ℕ → Type 0
IsResult session first p = (first ≤ p.1) × AllByRecursion (IsReadable (IsWithin session first p.1)) p.0 × IsAscending triple_cmp p.0

statements_give : (session first : ℕ) (ss : List Statement) → AllByRecursion IsGiven ss → IsResult session first (with_labels session first (once (all_labels ss)) ss)
statements_give session first ss g =
    let all = once (all_labels ss) in
    let ts = map (triple_of session first all) ss in
    let numbers = all_numbered ss [] all (sym (once_all (all_labels ss))) in
    (omega arith, each_stands (Stands session first all) ts [] (all_stand session first all ss g numbers) tt, each_ascends ts [] tt)

reading_gives : (session first next : ℕ) (ts : List Triple) (r : Result (List Statement) (ℕ × RefusalKind)) → ((ss : List Statement) → r ≡ Ok ss → AllByRecursion IsGiven ss) → numbered session first r ≡ Ok (ts, next) → IsResult session first (ts, next)
reading_gives session first next ts (Ok ss) g h =
    let is : with_labels session first (once (all_labels ss)) ss ≡ (ts, next) = cc in
    subst (λ (p : List Triple × ℕ). IsResult session first p) is (statements_give session first ss (g ss refl))
reading_gives session first next ts (Err f) g h = cc

pub gives_readable : GivesReadable
gives_readable bytes session first next ts h =
    let reading = lines_from OfText 1 (lines (chars bytes)) in
    elim (is_utf8 bytes) as (λ b. is_utf8 bytes ≡ b → cond b (numbered session first reading) (Err (line_of bytes (utf8_valid_len bytes), NotUtf8)) ≡ Ok (ts, next) → IsResult session first (ts, next)) [
      | true ↦ λ u k. reading_gives session first next ts reading (λ ss e. lines_give 1 (lines (chars bytes)) ss (lines_scalars (chars bytes) (scalars-chars bytes (IsUtf8-from_is_utf8 bytes u))) e) k
      | false ↦ λ u k. cc
    ] refl h
