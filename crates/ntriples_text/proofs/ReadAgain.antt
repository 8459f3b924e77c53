-- What the tokens and lines of a written text give.
use Rattle.std.proofs.Common.{◌≡◌, ◌∙◌, ℕ, suc, ◌+◌, ◌-◌, append_assoc, length-append, inl, inr, Bool, true, false, cond, ◌||◌, List, [], ◌∷◌, ◌++◌, length, take, Some, None, Result, Ok, Err, refl, sym, ap, subst, eqb, arith}
use Rattle.std.specs.Prelude.{bytes_eq}
use Rattle.std.specs.List.{AllByRecursion, list_all, onto_first}
use Rattle.std.specs.Str.{IsUtf8, chars}
use Rattle.std.proofs.Math.Seq.{take-append_seam}
use Rattle.std.proofs.lemmas.Str.{encodes-chars}
use Rattle.std.proofs.lemmas.Bool.{and_parts, eqb-true}
use Rattle.std.proofs.lemmas.Bool.Decides.{nat_tests}
use Rattle.std.proofs.lemmas.Slice.Eq.{bytes_eq-Decides}
use lib.Utf8.{encodes, encode}
use Rattle.rdf_lexical.specs.declared.classes.Class.TheVariants.{LetterOrDigit}
use Rattle.rdf_lexical.specs.declared.quoting.Quotes.TheVariants.{Double}
use Rattle.rdf_lexical.specs.declared.enclosing.Enclosed.{Enclosed}
use Rattle.rdf_lexical.specs.declared.enclosing.Enclosed.TheVariants as enclosed
use Rattle.rdf_lexical.specs.Characters.{is_iri_char, is_line_end}
use Rattle.rdf_lexical.specs.Escapes.{escaped_char}
use Rattle.rdf_lexical.specs.Classes.{holds}
use Rattle.rdf_lexical.specs.Enclosed.{is_held, may_hold}
use Rattle.rdf_lexical.specs.Meanings.{inner, unescaped, iri_text, string_value, lower_text}
use Rattle.rdf_lexical.specs.Productions.{joined_texts, IsEchar, IsUnit, IsPiece, IsIriRef, IsString}
use Rattle.rdf_lexical.proofs.EnclosedTokens.{some_closing}
use Rattle.rdf_lexical.proofs.Contents.{plain_value, echar_value}
use Rattle.rdf_lexical.proofs.LowerTags.{tag_all}
use Rattle.iri_ref.specs.Scheme.{has_scheme}
use Rattle.rdf_model.specs.declared.term.Term.{Term}
use Rattle.rdf_model.specs.declared.term.Term.TheVariants.{Blank, Iri, Literal}
use Rattle.rdf_model.specs.NTriples.{xsd_string}
use Rattle.rdf_lexical.specs.declared.refusal.RefusalKind.{RefusalKind}
use Rattle.rdf_lexical.specs.declared.refusal.RefusalKind.TheVariants.{RelativeIri}
use Rattle.ntriples_text.specs.declared.lexeme.TokenKind.TheVariants as kinds
use Rattle.ntriples_text.specs.declared.token.Token.{Token}
use Rattle.ntriples_text.specs.declared.token.Token.TheVariants.{IriRef, Label, Quoted, LanguageTag}
use Rattle.ntriples_text.specs.declared.statement.Node.TheVariants.{Plain}
use Rattle.ntriples_text.specs.declared.statement.LabelKind.{LabelKind}
use Rattle.ntriples_text.specs.declared.statement.Statement.{Statement}
use Rattle.rdf_lexical.specs.Refusals.{◌>>=◌}
use Rattle.ntriples_text.specs.Tokens.{token_at, token}
use Rattle.ntriples_text.specs.Grammar.{rdf_lang_string, iri_of, iri, predicate, literal, literal_at, literal_from, node_of, object_at, object, dot, end, statement_from, line}
use Rattle.ntriples_text.specs.Document.{lines}
use Rattle.ntriples_text.specs.Laws.{IsIriText, IsTagChars, IsReadableSubject, IsReadableObject, IsStored}
use Rattle.ntriples_text.proofs.StoreNodes.{IsNodeOf, gives_node, label_alone, name_before_space, node_label, not_end_plain, plain_label, is_plain, stored_of}
use Rattle.ntriples_text.proofs.Lexemes.{iri_met, string_met, tag_before_space, found_token}
use Rattle.ntriples_text.proofs.Written.{in_angles, in_quotes, escape_chars, all_escaped, suffix_chars, end_chars, object_chars, parts_chars}

-- what stands between one character on each side
pub inner_one : (a b : ℕ) (cs : List ℕ) → inner 1 (a ∷ (cs ++ b ∷ [])) ≡ cs
inner_one a b cs =
    let size : length (cs ++ b ∷ []) ≡ length cs + 1 = length-append cs (b ∷ []) in
    let n : suc (length (cs ++ b ∷ [])) - (1 + 1) ≡ length cs = omega arith in
    ap (λ k. take k (cs ++ b ∷ [])) n ∙ take-append_seam cs (b ∷ [])

-- characters that stand for themselves
abbrev singles : List ℕ → List (List ℕ)
singles [] = []
singles (c ∷ cs) = (c ∷ []) ∷ singles cs

joined_singles : (cs : List ℕ) → joined_texts (singles cs) ≡ cs
joined_singles [] = refl
joined_singles (c ∷ cs) = ap (λ x. c ∷ x) (joined_singles cs)

singles_are : (e : Enclosed) (cs : List ℕ) → list_all (may_hold e) cs ≡ true → AllByRecursion (IsPiece e) (singles cs)
singles_are e [] h = tt
singles_are e (c ∷ cs) h =
    let p = and_parts (may_hold e c) (list_all (may_hold e) cs) h in
    ((0, c ∷ [], refl, some_closing e, inl (c, refl, p.0)), singles_are e cs p.1)

plain_text : (e : Enclosed) (cs : List ℕ) → list_all (may_hold e) cs ≡ true → unescaped 0 cs ≡ encodes cs
plain_text e [] h = refl
plain_text e (c ∷ cs) h =
    let p = and_parts (may_hold e c) (list_all (may_hold e) cs) h in
    plain_value e c cs p.0 ∙ ap (λ x. encode c ++ x) (plain_text e cs p.1)

iri_shape : (cs : List ℕ) → list_all is_iri_char cs ≡ true → IsIriRef (60 ∷ (cs ++ 62 ∷ []))
iri_shape cs h = (cs ++ 62 ∷ [], refl, (singles cs, ap (λ x. x ++ 62 ∷ []) (sym (joined_singles cs)), singles_are enclosed.Iri cs h))

token_in_angles : (a rest : List ℕ) → IsUtf8 a → list_all is_iri_char (chars a) ≡ true → token (in_angles a rest) ≡ Ok (IriRef a, rest)
unfolding token
token_in_angles a rest u h =
    let cs = chars a in
    let t = 60 ∷ (cs ++ 62 ∷ []) in
    let whole : in_angles a rest ≡ t ++ rest = ap (λ x. 60 ∷ x) (sym (append_assoc cs (62 ∷ []) rest)) in
    let text : iri_text t ≡ a = ap (unescaped 0) (inner_one 60 62 cs) ∙ plain_text enclosed.Iri cs h ∙ encodes-chars a u in
    ap token_at whole ∙ found_token kinds.IriRef t rest (omega arith) (iri_met t rest (iri_shape cs h)) ∙ ap (λ x. Ok (IriRef x, rest)) text

-- a character that is escaped where it must be
plain_char : (c : ℕ) → eqb c 34 ≡ false → eqb c 92 ≡ false → eqb c 10 ≡ false → eqb c 13 ≡ false → is_held Double c ≡ true
plain_char c a b d e = grind (arith, nat_tests)

abbrev Escaped : ℕ → List ℕ → Type 0
Escaped c t = IsUnit (enclosed.Text Double) t × ((r : List ℕ) → unescaped 0 (t ++ r) ≡ encode c ++ unescaped 0 r)

by_backslash : (d c : ℕ) → escaped_char d ≡ Some c → Escaped c (92 ∷ d ∷ [])
by_backslash d c is = let echar : IsEchar (92 ∷ d ∷ []) c = (d, refl, is) in (inr (c, inr echar), echar_value (92 ∷ d ∷ []) c echar)

same_escaped : (c d n : ℕ) → eqb c n ≡ true → escaped_char d ≡ Some n → Escaped c (92 ∷ d ∷ [])
same_escaped c d n q is = subst (λ (x : ℕ). Escaped x (92 ∷ d ∷ [])) (sym (eqb-true c n q)) (by_backslash d n is)

escaped_is : (c : ℕ) → Escaped c (escape_chars c)
escaped_is c = elim (eqb c 34) as (λ b. eqb c 34 ≡ b → Escaped c (cond b (92 ∷ 34 ∷ []) (cond (eqb c 92) (92 ∷ 92 ∷ []) (cond (eqb c 10) (92 ∷ 110 ∷ []) (cond (eqb c 13) (92 ∷ 114 ∷ []) (c ∷ [])))))) [
  | true ↦ λ q. same_escaped c 34 34 q refl
  | false ↦ λ n34. elim (eqb c 92) as (λ b. eqb c 92 ≡ b → Escaped c (cond b (92 ∷ 92 ∷ []) (cond (eqb c 10) (92 ∷ 110 ∷ []) (cond (eqb c 13) (92 ∷ 114 ∷ []) (c ∷ []))))) [
    | true ↦ λ q. same_escaped c 92 92 q refl
    | false ↦ λ n92. elim (eqb c 10) as (λ b. eqb c 10 ≡ b → Escaped c (cond b (92 ∷ 110 ∷ []) (cond (eqb c 13) (92 ∷ 114 ∷ []) (c ∷ [])))) [
      | true ↦ λ q. same_escaped c 110 10 q refl
      | false ↦ λ n10. elim (eqb c 13) as (λ b. eqb c 13 ≡ b → Escaped c (cond b (92 ∷ 114 ∷ []) (c ∷ []))) [
        | true ↦ λ q. same_escaped c 114 13 q refl
        | false ↦ λ n13. let held = plain_char c n34 n92 n10 n13 in (inl (c, refl, held), λ r. plain_value (enclosed.Text Double) c r held)
      ] refl
    ] refl
  ] refl
] refl

abbrev escapes_of : List ℕ → List (List ℕ)
escapes_of [] = []
escapes_of (c ∷ cs) = escape_chars c ∷ escapes_of cs

joined_escapes : (cs rest : List ℕ) → joined_texts (escapes_of cs) ++ rest ≡ all_escaped cs rest
joined_escapes [] rest = refl
joined_escapes (c ∷ cs) rest = append_assoc (escape_chars c) (joined_texts (escapes_of cs)) rest ∙ ap (λ x. escape_chars c ++ x) (joined_escapes cs rest)

escapes_are : (cs : List ℕ) → AllByRecursion (IsPiece (enclosed.Text Double)) (escapes_of cs)
escapes_are [] = tt
escapes_are (c ∷ cs) = ((0, escape_chars c, refl, some_closing (enclosed.Text Double), (escaped_is c).0), escapes_are cs)

escapes_value : (cs : List ℕ) → unescaped 0 (joined_texts (escapes_of cs)) ≡ encodes cs
escapes_value [] = refl
escapes_value (c ∷ cs) = (escaped_is c).1 (joined_texts (escapes_of cs)) ∙ ap (λ x. encode c ++ x) (escapes_value cs)

token_in_quotes : (l rest : List ℕ) → IsUtf8 l → token (in_quotes l rest) ≡ Ok (Quoted l, rest)
unfolding token
token_in_quotes l rest u =
    let cs = chars l in
    let js = joined_texts (escapes_of cs) in
    let t = 34 ∷ (js ++ 34 ∷ []) in
    let whole : in_quotes l rest ≡ t ++ rest = ap (λ x. 34 ∷ x) (sym (append_assoc js (34 ∷ []) rest ∙ joined_escapes cs (34 ∷ rest))) in
    let text : string_value Double t ≡ l = ap (unescaped 0) (inner_one 34 34 js) ∙ escapes_value cs ∙ encodes-chars l u in
    let shape : IsString Double t = (js ++ 34 ∷ [], refl, (escapes_of cs, refl, escapes_are cs)) in
    ap token_at whole ∙ found_token kinds.StringLiteral t rest (omega arith) (string_met t rest shape) ∙ ap (λ x. Ok (Quoted x, rest)) text

-- a language tag
token_tag : (tag rest : List ℕ) → IsUtf8 tag → IsTagChars (chars tag) → token (64 ∷ (chars tag ++ 32 ∷ rest)) ≡ Ok (LanguageTag tag, 32 ∷ rest)
unfolding token
token_tag tag rest u h =
    let cs = chars tag in
    let text : lower_text cs ≡ tag = ap encodes h.1 ∙ encodes-chars tag u in
    found_token kinds.LanguageTag (64 ∷ cs) (32 ∷ rest) (omega arith) (tag_before_space cs rest h.0) ∙ ap (λ x. Ok (LanguageTag x, 32 ∷ rest)) text

-- a label of the store
token_label : (s n : ℕ) (rest : List ℕ) → IsStored s n → token (95 ∷ 58 ∷ (node_label s n ++ 32 ∷ rest)) ≡ Ok (Label (node_label s n), 32 ∷ rest)
unfolding token
token_label s n rest h =
    let name = node_label s n in
    let size : 2 + length name ≡ length (95 ∷ 58 ∷ name) = omega arith in
    let met = ap (λ k. Ok (kinds.BlankNodeLabel, 2 + k)) (name_before_space name rest (plain_label s n h)) ∙ ap (λ k. Ok (kinds.BlankNodeLabel, k)) size in
    found_token kinds.BlankNodeLabel (95 ∷ 58 ∷ name) (32 ∷ rest) (omega arith) met ∙ ap (λ x. Ok (Label x, 32 ∷ rest)) (label_alone s n h)

after_blank : (cs : List ℕ) → token (32 ∷ cs) ≡ token cs
unfolding token
after_blank cs = refl

scheme_iri : (a : List ℕ) → has_scheme a ≡ true → iri_of (IriRef a) ≡ Ok a
scheme_iri a h = ap (λ b. cond b (Ok a) (Err RelativeIri)) h

of_iri : (cs a rest : List ℕ) → token cs ≡ Ok (IriRef a, rest) → has_scheme a ≡ true → iri cs ≡ Ok (a, rest)
unfolding iri
of_iri cs a rest e h = rw e (ap (λ r. r >>= λ x. Ok (x, rest)) (scheme_iri a h))

of_predicate : (cs a rest : List ℕ) → token cs ≡ Ok (IriRef a, rest) → has_scheme a ≡ true → predicate cs ≡ Ok (a, rest)
unfolding predicate
of_predicate cs a rest e h = rw e (ap (λ r. r >>= λ x. Ok (x, rest)) (scheme_iri a h))

predicate_blank : (a rest : List ℕ) → IsIriText a → predicate (32 ∷ in_angles a rest) ≡ Ok (a, rest)
predicate_blank a rest r = of_predicate (32 ∷ in_angles a rest) a rest (after_blank (in_angles a rest) ∙ token_in_angles a rest r.0 r.1) r.2

iri_here : (a rest : List ℕ) → IsIriText a → iri (in_angles a rest) ≡ Ok (a, rest)
iri_here a rest r = of_iri (in_angles a rest) a rest (token_in_angles a rest r.0 r.1) r.2

-- the literal
abbrev tail_chars : List ℕ → List ℕ
tail_chars rest = 32 ∷ 46 ∷ rest

no_suffix : (l rest : List ℕ) → literal_from l (tail_chars rest) ≡ Ok (Literal l xsd_string None, tail_chars rest)
unfolding literal_from token
no_suffix l rest = refl

with_suffix : (l d rest : List ℕ) → literal_from l (94 ∷ 94 ∷ in_angles d rest) ≡ (iri (in_angles d rest) >>= λ x. literal l x.0 >>= λ term. Ok (term, x.1))
unfolding literal_from token
with_suffix l d rest = refl

read_suffix : (l d rest : List ℕ) → IsIriText d → literal l d ≡ Ok (Literal l d None) → literal_from l (suffix_chars d (bytes_eq d xsd_string) (tail_chars rest)) ≡ Ok (Literal l d None, tail_chars rest)
read_suffix l d rest r kept = elim (bytes_eq d xsd_string) as (λ b. bytes_eq d xsd_string ≡ b → literal_from l (suffix_chars d b (tail_chars rest)) ≡ Ok (Literal l d None, tail_chars rest)) [
  | true ↦ λ e. no_suffix l rest ∙ ap (λ x. Ok (Literal l x None, tail_chars rest)) (sym ((bytes_eq-Decides d xsd_string).0 e))
  | false ↦ λ e. with_suffix l d (tail_chars rest)
      ∙ (ap (λ q. q >>= λ x. literal l x.0 >>= λ term. Ok (term, x.1)) (iri_here d (tail_chars rest) r)
      ∙ ap (λ q. q >>= λ term. Ok (term, tail_chars rest)) kept)
] refl

read_tag : (l tag rest : List ℕ) → IsUtf8 tag → IsTagChars (chars tag) → literal_from l (64 ∷ (chars tag ++ tail_chars rest)) ≡ Ok (Literal l rdf_lang_string (Some tag), tail_chars rest)
unfolding literal_from
read_tag l tag rest u h = ap (λ q. q >>= literal_at l (64 ∷ (chars tag ++ tail_chars rest))) (token_tag tag (46 ∷ rest) u h)

bound : {A B : Type 0} (r : Result A RefusalKind) (x : A) (f : A → Result B RefusalKind) → r ≡ Ok x → (r >>= f) ≡ f x
bound r x f e = ap (λ q. q >>= f) e

read_literal : (labels : LabelKind) (l ends : List ℕ) (o : Term) (rest : List ℕ) → IsUtf8 l → literal_from l ends ≡ Ok (o, tail_chars rest) → object labels (32 ∷ in_quotes l ends) ≡ Ok (Plain o, tail_chars rest)
unfolding object
read_literal labels l ends o rest u e =
    bound (token (32 ∷ in_quotes l ends)) (Quoted l, ends) (object_at labels) (after_blank (in_quotes l ends) ∙ token_in_quotes l ends u)
    ∙ bound (literal_from l ends) (o, tail_chars rest) (λ r. Ok (Plain r.0, r.1)) e

read_object : (labels : LabelKind) (o : Term) (rest : List ℕ) → IsReadableObject (IsNodeOf labels) o → object labels (32 ∷ object_chars o (tail_chars rest)) ≡ Ok (Plain o, tail_chars rest)
unfolding object
read_object labels (Iri a) rest r =
    bound (token (32 ∷ in_angles a (tail_chars rest))) (IriRef a, tail_chars rest) (object_at labels) (after_blank (in_angles a (tail_chars rest)) ∙ token_in_angles a (tail_chars rest) r.0 r.1)
    ∙ ap (λ q. (q >>= λ x. Ok (Plain (Iri x))) >>= λ n. Ok (n, tail_chars rest)) (scheme_iri a r.2)
read_object labels (Blank s n) rest r =
    bound (token (32 ∷ 95 ∷ 58 ∷ (node_label s n ++ tail_chars rest))) (Label (node_label s n), tail_chars rest) (object_at labels)
    (after_blank (95 ∷ 58 ∷ (node_label s n ++ tail_chars rest)) ∙ token_label s n (46 ∷ rest) (stored_of labels s n r))
    ∙ ap (λ q. q >>= λ x. Ok (x, tail_chars rest)) (gives_node labels s n r)
read_object labels (Literal l d None) rest r = read_literal labels l (end_chars d None (tail_chars rest)) (Literal l d None) rest r.0 (read_suffix l d rest r.1 r.2)
read_object labels (Literal l d (Some tag)) rest r =
    read_literal labels l (end_chars d (Some tag) (tail_chars rest)) (Literal l d (Some tag)) rest r.0
    (read_tag l tag rest r.2 r.3 ∙ ap (λ x. Ok (Literal l x (Some tag), tail_chars rest)) (sym r.1))

read_dot : (rest : List ℕ) → dot (tail_chars rest) ≡ Ok rest
unfolding dot token
read_dot rest = refl

read_end : end (10 ∷ []) ≡ Ok tt
unfolding end token
read_end = refl

abbrev pub plain_statement : Term → List ℕ → Term → Statement
plain_statement s b o = record { subject = Plain s; predicate = b; object = Plain o }

read_from : (labels : LabelKind) (t : Token) (s : Term) (b : List ℕ) (o : Term) → node_of labels t ≡ Ok (Plain s) → IsIriText b → IsReadableObject (IsNodeOf labels) o
    → statement_from labels (t, 32 ∷ in_angles b (32 ∷ object_chars o (tail_chars (10 ∷ [])))) ≡ Ok (plain_statement s b o)
unfolding statement_from
read_from labels t s b o hs hb ho =
    rw (hs, predicate_blank b (32 ∷ object_chars o (tail_chars (10 ∷ []))) hb, read_object labels o (10 ∷ []) ho, read_dot (10 ∷ []), read_end) refl

pub read_parts : (labels : LabelKind) (s : Term) (b : List ℕ) (o : Term) → IsReadableSubject (IsNodeOf labels) s → IsIriText b → IsReadableObject (IsNodeOf labels) o → line labels (parts_chars s (Iri b) o []) ≡ Ok (Some (plain_statement s b o))
unfolding line
read_parts labels (Iri a) b o ha hb ho =
    let rest = 32 ∷ in_angles b (32 ∷ object_chars o (tail_chars (10 ∷ []))) in
    rw (token_in_angles a rest ha.0 ha.1) (ap (λ q. q >>= λ x. Ok (Some x)) (read_from labels (IriRef a) (Iri a) b o (ap (λ q. q >>= λ x. Ok (Plain (Iri x))) (scheme_iri a ha.2)) hb ho))
read_parts labels (Blank s n) b o hs hb ho =
    let rest = in_angles b (32 ∷ object_chars o (tail_chars (10 ∷ []))) in
    rw (token_label s n rest (stored_of labels s n hs)) (ap (λ q. q >>= λ x. Ok (Some x)) (read_from labels (Label (node_label s n)) (Blank s n) b o (gives_node labels s n hs) hb ho))
read_parts labels (Literal l d t) b o hs hb ho = absurd hs

-- the lines
not_end_iri : (c : ℕ) → is_iri_char c ≡ true → is_line_end c ≡ false
not_end_iri c h = grind (arith, nat_tests)

not_end_string : (c : ℕ) → is_held Double c ≡ true → is_line_end c ≡ false
not_end_string c h = grind (arith, nat_tests)

one_on : (c : ℕ) (rest l : List ℕ) (ls : List (List ℕ)) → is_line_end c ≡ false → lines rest ≡ l ∷ ls → lines (c ∷ rest) ≡ (c ∷ l) ∷ ls
one_on c rest l ls n e = ap (λ b. cond b ((c ∷ []) ∷ lines rest) (onto_first c (lines rest))) n ∙ ap (onto_first c) e

all_on : (p : ℕ → Bool) (on : (c : ℕ) → p c ≡ true → is_line_end c ≡ false) (cs rest l : List ℕ) (ls : List (List ℕ)) → list_all p cs ≡ true → lines rest ≡ l ∷ ls → lines (cs ++ rest) ≡ (cs ++ l) ∷ ls
all_on p on [] rest l ls h e = e
all_on p on (c ∷ cs) rest l ls h e =
    let q = and_parts (p c) (list_all p cs) h in
    one_on c (cs ++ rest) (cs ++ l) ls (on c q.0) (all_on p on cs rest l ls q.1 e)

escape_on : (c : ℕ) (rest l : List ℕ) (ls : List (List ℕ)) → lines rest ≡ l ∷ ls → lines (escape_chars c ++ rest) ≡ (escape_chars c ++ l) ∷ ls
escape_on c rest l ls e =
    let two : (d : ℕ) → is_line_end d ≡ false → lines (92 ∷ d ∷ rest) ≡ (92 ∷ d ∷ l) ∷ ls = λ d n. one_on 92 (d ∷ rest) (d ∷ l) ls refl (one_on d rest l ls n e) in
    elim (eqb c 34) as (λ b. eqb c 34 ≡ b → let x = cond b (92 ∷ 34 ∷ []) (cond (eqb c 92) (92 ∷ 92 ∷ []) (cond (eqb c 10) (92 ∷ 110 ∷ []) (cond (eqb c 13) (92 ∷ 114 ∷ []) (c ∷ [])))) in lines (x ++ rest) ≡ (x ++ l) ∷ ls) [
      | true ↦ λ q. two 34 refl
      | false ↦ λ n34. elim (eqb c 92) as (λ b. eqb c 92 ≡ b → let x = cond b (92 ∷ 92 ∷ []) (cond (eqb c 10) (92 ∷ 110 ∷ []) (cond (eqb c 13) (92 ∷ 114 ∷ []) (c ∷ []))) in lines (x ++ rest) ≡ (x ++ l) ∷ ls) [
        | true ↦ λ q. two 92 refl
        | false ↦ λ n92. elim (eqb c 10) as (λ b. eqb c 10 ≡ b → let x = cond b (92 ∷ 110 ∷ []) (cond (eqb c 13) (92 ∷ 114 ∷ []) (c ∷ [])) in lines (x ++ rest) ≡ (x ++ l) ∷ ls) [
          | true ↦ λ q. two 110 refl
          | false ↦ λ n10. elim (eqb c 13) as (λ b. eqb c 13 ≡ b → let x = cond b (92 ∷ 114 ∷ []) (c ∷ []) in lines (x ++ rest) ≡ (x ++ l) ∷ ls) [
            | true ↦ λ q. two 114 refl
            | false ↦ λ n13. one_on c rest l ls (not_end_string c (plain_char c n34 n92 n10 n13)) e
          ] refl
        ] refl
      ] refl
    ] refl

all_escaped_on : (cs rest l : List ℕ) (ls : List (List ℕ)) → lines rest ≡ l ∷ ls → lines (all_escaped cs rest) ≡ all_escaped cs l ∷ ls
all_escaped_on [] rest l ls e = e
all_escaped_on (c ∷ cs) rest l ls e = escape_on c (all_escaped cs rest) (all_escaped cs l) ls (all_escaped_on cs rest l ls e)

-- what a language tag is made of
abbrev is_tag_part : ℕ → Bool
is_tag_part c = holds LetterOrDigit c || eqb c 45

not_end_tag : (c : ℕ) → is_tag_part c ≡ true → is_line_end c ≡ false
not_end_tag c h = grind (arith, nat_tests)

all_tag_parts : (cs : List ℕ) → IsTagChars cs → list_all is_tag_part cs ≡ true
all_tag_parts cs h = tag_all is_tag_part (λ c e. ap (λ b. b || eqb c 45) e) refl cs h.0

angles_on : (a rest l : List ℕ) (ls : List (List ℕ)) → IsIriText a → lines rest ≡ l ∷ ls → lines (in_angles a rest) ≡ in_angles a l ∷ ls
angles_on a rest l ls r e = one_on 60 (chars a ++ 62 ∷ rest) (chars a ++ 62 ∷ l) ls refl (all_on is_iri_char not_end_iri (chars a) (62 ∷ rest) (62 ∷ l) ls r.1 (one_on 62 rest l ls refl e))

suffix_on : (d rest l : List ℕ) (ls : List (List ℕ)) (b : Bool) → IsIriText d → lines rest ≡ l ∷ ls → lines (suffix_chars d b rest) ≡ suffix_chars d b l ∷ ls
suffix_on d rest l ls true r e = e
suffix_on d rest l ls false r e = one_on 94 (94 ∷ in_angles d rest) (94 ∷ in_angles d l) ls refl (one_on 94 (in_angles d rest) (in_angles d l) ls refl (angles_on d rest l ls r e))

quotes_on : (x rest l : List ℕ) (ls : List (List ℕ)) → lines rest ≡ l ∷ ls → lines (in_quotes x rest) ≡ in_quotes x l ∷ ls
quotes_on x rest l ls e = one_on 34 (all_escaped (chars x) (34 ∷ rest)) (all_escaped (chars x) (34 ∷ l)) ls refl (all_escaped_on (chars x) (34 ∷ rest) (34 ∷ l) ls (one_on 34 rest l ls refl e))

object_on : (labels : LabelKind) (t : Term) (rest l : List ℕ) (ls : List (List ℕ)) → IsReadableObject (IsNodeOf labels) t → lines rest ≡ l ∷ ls → lines (object_chars t rest) ≡ object_chars t l ∷ ls
object_on labels (Iri a) rest l ls r e = angles_on a rest l ls r e
object_on labels (Blank s n) rest l ls r e =
    let name = node_label s n in
    one_on 95 (58 ∷ (name ++ rest)) (58 ∷ (name ++ l)) ls refl (one_on 58 (name ++ rest) (name ++ l) ls refl (all_on is_plain not_end_plain name rest l ls (plain_label s n (stored_of labels s n r)) e))
object_on labels (Literal x d None) rest l ls r e = quotes_on x (end_chars d None rest) (end_chars d None l) ls (suffix_on d rest l ls (bytes_eq d xsd_string) r.1 e)
object_on labels (Literal x d (Some tag)) rest l ls r e =
    quotes_on x (end_chars d (Some tag) rest) (end_chars d (Some tag) l) ls
    (one_on 64 (chars tag ++ rest) (chars tag ++ l) ls refl (all_on is_tag_part not_end_tag (chars tag) rest l ls (all_tag_parts (chars tag) r.3) e))

pub parts_on : (labels : LabelKind) (s : Term) (b : List ℕ) (o : Term) (rest : List ℕ) → IsReadableObject (IsNodeOf labels) s → IsIriText b → IsReadableObject (IsNodeOf labels) o → lines (parts_chars s (Iri b) o rest) ≡ parts_chars s (Iri b) o [] ∷ lines rest
parts_on labels s b o rest hs hb ho =
    let dotted : lines (32 ∷ 46 ∷ 10 ∷ rest) ≡ (32 ∷ 46 ∷ 10 ∷ []) ∷ lines rest = refl in
    let third = one_on 32 (object_chars o (32 ∷ 46 ∷ 10 ∷ rest)) (object_chars o (32 ∷ 46 ∷ 10 ∷ [])) (lines rest) refl (object_on labels o (32 ∷ 46 ∷ 10 ∷ rest) (32 ∷ 46 ∷ 10 ∷ []) (lines rest) ho dotted) in
    let second = one_on 32 (in_angles b (32 ∷ object_chars o (32 ∷ 46 ∷ 10 ∷ rest))) (in_angles b (32 ∷ object_chars o (32 ∷ 46 ∷ 10 ∷ []))) (lines rest) refl (angles_on b (32 ∷ object_chars o (32 ∷ 46 ∷ 10 ∷ rest)) (32 ∷ object_chars o (32 ∷ 46 ∷ 10 ∷ [])) (lines rest) hb third) in
    object_on labels s (32 ∷ in_angles b (32 ∷ object_chars o (32 ∷ 46 ∷ 10 ∷ rest))) (32 ∷ in_angles b (32 ∷ object_chars o (32 ∷ 46 ∷ 10 ∷ []))) (lines rest) hs second
