-- Where a text ends within a token, or within an escape.
use Rattle.std.proofs.Common.{◌≡◌, ◌∙◌, ℕ, zero, suc, ◌+◌, ◌-◌, ◌<◌, Bool, true, false, cond, ◌==◌, ◌||◌, List, [], ◌∷◌, ◌++◌, length, take, drop, Option, Some, None, Ok, Err, refl, sym, ap, subst, arith, append-nil, append_assoc, ◌⊎◌, inl, inr}
use Rattle.std.specs.Prelude.{replicate, codes}
use Rattle.std.specs.List.{AllByRecursion}
use Rattle.std.proofs.lemmas.Bool.{eqb-true}
use Rattle.std.proofs.lemmas.List.{take-append-drop, take_all}
use Rattle.rdf_lexical.specs.declared.refusal.RefusalKind.TheVariants.{NoToken, UnexpectedEnd}
use Rattle.rdf_lexical.specs.declared.classes.Class.TheVariants.{Sign, NameStart, NameUnderscoreOrDigit, Name, NameOrDot}
use Rattle.rdf_lexical.specs.declared.quoting.Quotes.{Quotes}
use Rattle.rdf_lexical.specs.declared.quoting.Quotes.TheVariants as quotes
use Rattle.rdf_lexical.specs.declared.enclosing.Enclosed.TheVariants.{Iri, Text}
use Rattle.rdf_lexical.specs.Classes.{holds, run_length}
use Rattle.rdf_lexical.specs.Names.{name_length}
use Rattle.rdf_lexical.specs.Tags.{tag_length}
use Rattle.rdf_lexical.specs.Quoting.{quotes_length}
use Rattle.rdf_lexical.specs.Enclosed.{quote_of, leading_marks, enclosed_length}
use Rattle.rdf_lexical.specs.Productions.{AllOf, joined_texts, IsPiece, IsCutEnclosed}
use Rattle.rdf_lexical.proofs.Runs.{run_taken}
use Rattle.rdf_lexical.proofs.EnclosedTexts.{marks_shape}
use Rattle.rdf_lexical.proofs.EnclosedTokens.{unit_first, other_first, backslash_no_mark}
use Rattle.rdf_lexical.proofs.Cut.{is_early, early_is, other_is, enclosed_cut, cut_met, IsCutBody}
use Rattle.turtle_lex.specs.declared.token.TokenKind.{TokenKind}
use Rattle.turtle_lex.specs.declared.token.TokenKind.TheVariants.{IriRef, PrefixName, BlankNodeLabel, LanguageTag, Integer, Decimal, StringLiteral, Dot, Carets, A, True, False, Prefix, Base, AtPrefix, AtBase}
use Rattle.turtle_lex.specs.Names.{prefix_length}
use Rattle.turtle_lex.specs.Numbers.{number}
use Rattle.turtle_lex.specs.Words.{Lexeme, word_kind, language_tag, directive_kind, begins_directive, lexeme_of, directive, at_word, word}
use Rattle.turtle_lex.specs.Enclosed.{iri_lexeme, iri_ref, more_quotes, quotes_at, string_lexeme, string_literal}
use Rattle.turtle_lex.specs.Tokens.{label_after_colon, label, carets, prefixed, name_at, name_or_word, is_cut_number, number_found, number_or_dot, punctuation, may_begin_number, may_begin_name, plain_found, plain_token, token_at}
use Rattle.turtle_lex.specs.Productions.{IsWhole, HasNoToken, BeginsToken, EndsInEscape}
use Rattle.turtle_lex.specs.Laws.{EndsEarly}
use Rattle.turtle_lex.proofs.Reached.{Reaches, reached, two_more}
use Rattle.turtle_lex.proofs.Sound.{IsFound, token_found}
use Rattle.turtle_lex.proofs.TokenLaws.{misses_none}
use Rattle.turtle_lex.proofs.Stays.{iri_err, string_err, found_label, IsDirective, if_begins, is_signed, dot_or, stable}

abbrev is_cut : Lexeme → Bool
is_cut (Ok p) = false
is_cut (Err f) = is_early f

not_cut : (r : Lexeme) → is_cut r ≡ false → r ≡ Err UnexpectedEnd → ⊥
not_cut r h is = let both : true ≡ false = sym (ap is_cut is) ∙ h in cc

-- What is cut off begins a token, or ends in an escape.
abbrev IsCut : Bool → List ℕ → Type 0
IsCut m text = BeginsToken m text ⊎ EndsInEscape text

replicate-add : (n j m : ℕ) → replicate n m ++ replicate j m ≡ replicate (n + j) m
replicate-add zero j m = let e : 0 + j ≡ j = omega arith in ap (λ k. replicate k m) (sym e)
replicate-add (suc n) j m = let e : suc n + j ≡ suc (n + j) = omega arith in ap (λ x. m ∷ x) (replicate-add n j m) ∙ ap (λ k. replicate k m) (sym e)

-- fewer marks than close it, and the missing ones
completed : (n k m : ℕ) (cs js y : List ℕ) → n < k → cs ≡ js ++ y → y ≡ replicate n m → cs ++ replicate (k - n) m ≡ js ++ replicate k m
completed n k m cs js y few parts marks =
    let sum : n + (k - n) ≡ k = omega arith in
    ap (λ x. x ++ replicate (k - n) m) (parts ∙ ap (λ x. js ++ x) marks)
    ∙ append_assoc js (replicate n m) (replicate (k - n) m)
    ∙ ap (λ x. js ++ x) (replicate-add n (k - n) m ∙ ap (λ i. replicate i m) sum)

iri_cut : (m : Bool) (c : ℕ) (cs : List ℕ) → c ≡ 60 → IsCutBody Iri cs → IsCut m (c ∷ cs)
iri_cut m c cs is (ps, y, parts, all, (n, few, inl end)) =
    let more = replicate (1 - n) 62 in
    inl (IriRef, more, (cs ++ more, ap (λ x. x ∷ (cs ++ more)) is, (ps, completed n 1 62 cs (joined_texts ps) y few parts end, all)))
iri_cut m c cs is (ps, y, parts, all, (n, few, inr (d, end, cut))) = inr (inl (cs, ap (λ x. x ∷ cs) is, (ps, n, d, parts ∙ ap (λ x. joined_texts ps ++ x) end, all, few, cut)))

-- a string behind what opens it
string_cut : (m : Bool) (q : Quotes) (text b : List ℕ) → text ≡ replicate (quotes_length q) (quote_of q) ++ b → IsCutBody (Text q) b → IsCut m text
string_cut m q text b is (ps, y, parts, all, (n, few, inl end)) =
    let more = replicate (quotes_length q - n) (quote_of q) in
    let open_ = replicate (quotes_length q) (quote_of q) in
    inl (StringLiteral q, more, (b ++ more, ap (λ x. x ++ more) is ∙ append_assoc open_ b more, (ps, completed n (quotes_length q) (quote_of q) b (joined_texts ps) y few parts end, all)))
string_cut m q text b is (ps, y, parts, all, (n, few, inr (d, end, cut))) = inr (inr (q, b, is, (ps, n, d, parts ∙ ap (λ x. joined_texts ps ++ x) end, all, few, cut)))

long_opened : (c : ℕ) (cs : List ℕ) → (leading_marks c 2 cs == 2) ≡ true → cs ≡ c ∷ c ∷ drop 2 cs
long_opened c cs two =
    let count = eqb-true (leading_marks c 2 cs) 2 two in
    let front : take 2 cs ≡ c ∷ c ∷ [] = subst (λ k. take k cs ≡ replicate k c) count (marks_shape c 2 cs).0 in
    sym (take-append-drop 2 cs) ∙ ap (λ x. x ++ drop 2 cs) front

abbrev Opened : ℕ → List ℕ → Quotes → Type 0
Opened c cs q = c ∷ cs ≡ replicate (quotes_length q) (quote_of q) ++ drop (more_quotes q) cs

opened_by : (c : ℕ) (cs : List ℕ) → (c == 34 || c == 39) ≡ true → Opened c cs (quotes_at c cs)
opened_by c cs either = elim (leading_marks c 2 cs == 2) as (λ b. (leading_marks c 2 cs == 2) ≡ b → Opened c cs (cond b (cond (c == 34) quotes.LongDouble quotes.LongSingle) (cond (c == 34) quotes.Double quotes.Single))) [
  | true ↦ λ two. let long = ap (λ x. c ∷ x) (long_opened c cs two) in elim (c == 34) as (λ b. (c == 34) ≡ b → (b || c == 39) ≡ true → Opened c cs (cond b quotes.LongDouble quotes.LongSingle)) [
    | true ↦ λ q o. long ∙ ap (λ x. x ∷ x ∷ x ∷ drop 2 cs) (eqb-true c 34 q)
    | false ↦ λ q o. long ∙ ap (λ x. x ∷ x ∷ x ∷ drop 2 cs) (eqb-true c 39 o)
  ] refl either
  | false ↦ λ two. elim (c == 34) as (λ b. (c == 34) ≡ b → (b || c == 39) ≡ true → Opened c cs (cond b quotes.Double quotes.Single)) [
    | true ↦ λ q o. ap (λ x. x ∷ cs) (eqb-true c 34 q)
    | false ↦ λ q o. ap (λ x. x ∷ cs) (eqb-true c 39 o)
  ] refl either
] refl

string_at_cut : (m : Bool) (c : ℕ) (cs : List ℕ) → (c == 34 || c == 39) ≡ true → string_literal c cs ≡ Err UnexpectedEnd → IsCut m (c ∷ cs)
string_at_cut m c cs either h =
    let q = quotes_at c cs in
    let b = drop (more_quotes q) cs in
    string_cut m q (c ∷ cs) b (opened_by c cs either) (enclosed_cut (Text q) b (string_err q (enclosed_length (Text q) 0 b) UnexpectedEnd h))

label_cut : (m : Bool) (c : ℕ) (cs : List ℕ) → c ≡ 95 → label cs ≡ Err UnexpectedEnd → IsCut m (c ∷ cs)
label_cut m c [] is h = inl (BlankNodeLabel, 58 ∷ 97 ∷ [], (97, [], ap (λ x. x ∷ 58 ∷ 97 ∷ []) is, refl, inl refl))
label_cut m c (d ∷ []) is h = elim (d == 58) as (λ b. (d == 58) ≡ b → cond b (label_after_colon []) (Err NoToken) ≡ Err UnexpectedEnd → IsCut m (c ∷ d ∷ [])) [
  | true ↦ λ q k. inl (BlankNodeLabel, 97 ∷ [], (97, [], ap (λ x. x ∷ d ∷ 97 ∷ []) is ∙ ap (λ x. 95 ∷ x ∷ 97 ∷ []) (eqb-true d 58 q), refl, inl refl))
  | false ↦ λ q k. absurd (not_cut (Err NoToken) refl k)
] refl h
label_cut m c (d ∷ e ∷ cs) is h = absurd (not_cut (label (d ∷ e ∷ cs)) (label_open d e cs) h)
  where
    label_open : (d e : ℕ) (cs : List ℕ) → is_cut (label (d ∷ e ∷ cs)) ≡ false
    label_open d e cs = elim (d == 58) as (λ b. is_cut (cond b (label_after_colon (e ∷ cs)) (Err NoToken)) ≡ false) [
      | true ↦ elim (holds NameUnderscoreOrDigit e) as (λ b. is_cut (found_label b (2 + name_length Name (e ∷ cs))) ≡ false) [ true ↦ refl | false ↦ refl ]
      | false ↦ refl
    ]

carets_open : (d : ℕ) (ds : List ℕ) → is_cut (carets (d ∷ ds)) ≡ false
carets_open d ds = elim (d == 94) as (λ b. is_cut (cond b (Ok (Carets, 2)) (Err NoToken)) ≡ false) [ true ↦ refl | false ↦ refl ]

carets_cut : (m : Bool) (c : ℕ) (cs : List ℕ) → c ≡ 94 → carets cs ≡ Err UnexpectedEnd → IsCut m (c ∷ cs)
carets_cut m c [] is h = inl (Carets, 94 ∷ [], ap (λ x. x ∷ 94 ∷ []) is)
carets_cut m c (d ∷ ds) is h = absurd (not_cut (carets (d ∷ ds)) (carets_open d ds) h)

-- what `@` begins
tag_open : (d : ℕ) (ds : List ℕ) → is_cut (language_tag (d ∷ ds)) ≡ false
tag_open d ds = elim (tag_length (d ∷ ds) == 0) as (λ b. is_cut (cond b (Err NoToken) (Ok (LanguageTag, suc (tag_length (d ∷ ds))))) ≡ false) [ true ↦ refl | false ↦ refl ]

tag_cut : (c : ℕ) (cs : List ℕ) → c ≡ 64 → language_tag cs ≡ Err UnexpectedEnd → IsCut true (c ∷ cs)
tag_cut c [] is h = inl (LanguageTag, 97 ∷ [], (refl, (97 ∷ [], [], ap (λ x. x ∷ 97 ∷ []) is, (refl, (refl, tt)), tt)))
tag_cut c (d ∷ ds) is h = absurd (not_cut (language_tag (d ∷ ds)) (tag_open d ds) h)

lexeme_cut : (o : Option TokenKind) (n : ℕ) (b : Bool) → lexeme_of o n b ≡ Err UnexpectedEnd → b ≡ true
lexeme_cut (Some k) n b h = absurd (not_cut (Ok (k, n)) refl h)
lexeme_cut None n true h = refl
lexeme_cut None n false h = absurd (not_cut (Err NoToken) refl h)

directive_cut : (c : ℕ) (cs : List ℕ) → c ≡ 64 → directive cs ≡ Err UnexpectedEnd → IsCut false (c ∷ cs)
directive_cut c cs is h = by_word (if_begins cs (lexeme_cut (directive_kind (take (tag_length cs) cs)) (suc (tag_length cs)) (begins_directive cs) h))
  where
    by_word : ((w : List ℕ) × (r : List ℕ) × IsDirective w × (w ≡ cs ++ r)) → IsCut false (c ∷ cs)
    by_word (w, r, inl e, split) = inl (AtPrefix, r, (refl, ap (λ x. x ∷ (cs ++ r)) is ∙ ap (λ x. 64 ∷ x) (sym split ∙ e)))
    by_word (w, r, inr e, split) = inl (AtBase, r, (refl, ap (λ x. x ∷ (cs ++ r)) is ∙ ap (λ x. 64 ∷ x) (sym split ∙ e)))

at_cut : (m : Bool) (c : ℕ) (cs : List ℕ) → c ≡ 64 → at_word m cs ≡ Err UnexpectedEnd → IsCut m (c ∷ cs)
at_cut true c cs is h = tag_cut c cs is h
at_cut false c cs is h = directive_cut c cs is h

-- a sign, alone or with a dot
cut_sign : (m : Bool) (c : ℕ) (cs : List ℕ) → holds Sign c ≡ true → is_cut_number cs ≡ true → IsCut m (c ∷ cs)
cut_sign m c [] sign cut = inl (Integer, 49 ∷ [], (c ∷ [], 49 ∷ [], refl, inr (c, refl, sign), (refl, (refl, tt))))
cut_sign m c (d ∷ []) sign cut = inl (Decimal, 49 ∷ [], (c ∷ [], [], 49 ∷ [], ap (λ x. c ∷ x ∷ 49 ∷ []) (eqb-true d 46 cut), inr (c, refl, sign), tt, (refl, (refl, tt))))
cut_sign m c (d ∷ e ∷ cs) sign cut = absurd (let both : false ≡ true = cut in cc)

number_cut : (m : Bool) (c : ℕ) (cs : List ℕ) → may_begin_number c ≡ true → number_or_dot (c ∷ cs) ≡ Err UnexpectedEnd → IsCut m (c ∷ cs)
number_cut m c cs may h = by_number (number (c ∷ cs)) refl h
  where
    by_number : (o : Option (TokenKind × ℕ)) → number (c ∷ cs) ≡ o → number_found o (c ∷ cs) ≡ Err UnexpectedEnd → IsCut m (c ∷ cs)
    by_number (Some p) e g = absurd (not_cut (Ok p) refl g)
    by_number None e g = elim (c == 46) as (λ b. (c == 46) ≡ b → dot_or b (is_cut_number cs) ≡ Err UnexpectedEnd → IsCut m (c ∷ cs)) [
      | true ↦ λ q k. absurd (not_cut (Ok (Dot, 1)) refl k)
      | false ↦ λ q k. elim (is_cut_number cs) as (λ b. is_cut_number cs ≡ b → dot_or false b ≡ Err UnexpectedEnd → IsCut m (c ∷ cs)) [
        | true ↦ λ cut j. cut_sign m c cs (is_signed c cs may q e).0 cut
        | false ↦ λ cut j. absurd (not_cut (Err NoToken) refl j)
      ] refl k
    ] refl g

-- the beginning of a prefix
all_dotted : (cs : List ℕ) → (run_length NameOrDot cs == length cs) ≡ true → AllOf NameOrDot cs
all_dotted cs h =
    let same = eqb-true (run_length NameOrDot cs) (length cs) h in
    subst (λ (x : List ℕ). AllOf NameOrDot x) (take_all (run_length NameOrDot cs) cs (omega (arith, same))) (run_taken NameOrDot cs)

prefix_cut : (m : Bool) (c : ℕ) (cs : List ℕ) → holds NameStart c ≡ true → AllOf NameOrDot (c ∷ cs) → IsCut m (c ∷ cs)
prefix_cut m c cs start all =
    let p = c ∷ (cs ++ 97 ∷ []) in
    inl (PrefixName, 97 ∷ 58 ∷ [], (p, ap (λ x. c ∷ x) (sym (append_assoc cs (97 ∷ []) (58 ∷ []))), inr (c, cs ++ 97 ∷ [], refl, start, inr (cs, 97, refl, all.1, refl))))

no_prefix_colon : (c : ℕ) (cs : List ℕ) → (c == 58) ≡ true → is_cut (name_or_word (c ∷ cs)) ≡ false
no_prefix_colon c cs h =
    let is = eqb-true c 58 h in
    ap (λ x. is_cut (name_or_word (x ∷ cs))) is

start_of : (c : ℕ) → may_begin_name c ≡ true → (c == 58) ≡ false → holds NameStart c ≡ true
start_of c may other = elim (c == 58) as (λ b. (b || holds NameStart c) ≡ true → b ≡ false → holds NameStart c ≡ true) [ true ↦ λ g e. absurd (let both : true ≡ false = e in cc) | false ↦ λ g e. g ] may other

name_cut : (m : Bool) (c : ℕ) (cs : List ℕ) → may_begin_name c ≡ true → name_or_word (c ∷ cs) ≡ Err UnexpectedEnd → IsCut m (c ∷ cs)
name_cut m c cs may h = elim (c == 58) as (λ b. (c == 58) ≡ b → IsCut m (c ∷ cs)) [
  | true ↦ λ q. absurd (not_cut (name_or_word (c ∷ cs)) (no_prefix_colon c cs q) h)
  | false ↦ λ q. by_rest (start_of c may q) (drop (prefix_length (c ∷ cs)) (c ∷ cs)) h
] refl
  where
    as_word : holds NameStart c ≡ true → word (c ∷ cs) ≡ Err UnexpectedEnd → IsCut m (c ∷ cs)
    as_word start k =
        let n = run_length Name (c ∷ cs) in
        prefix_cut m c cs start (all_dotted (c ∷ cs) (lexeme_cut (word_kind (take n (c ∷ cs))) n (run_length NameOrDot (c ∷ cs) == length (c ∷ cs)) k))

    by_rest : holds NameStart c ≡ true → (d : List ℕ) → name_at (c ∷ cs) (prefix_length (c ∷ cs)) d ≡ Err UnexpectedEnd → IsCut m (c ∷ cs)
    by_rest start [] k = as_word start k
    by_rest start (d ∷ ds) k = elim (d == 58) as (λ b. cond b (Ok (prefixed (prefix_length (c ∷ cs)) ds)) (word (c ∷ cs)) ≡ Err UnexpectedEnd → IsCut m (c ∷ cs)) [
      | true ↦ λ j. absurd (not_cut (Ok (prefixed (prefix_length (c ∷ cs)) ds)) refl j)
      | false ↦ λ j. as_word start j
    ] k

plain_cut : (m : Bool) (c : ℕ) (cs : List ℕ) (o : Option TokenKind) → plain_found o c (c ∷ cs) ≡ Err UnexpectedEnd → IsCut m (c ∷ cs)
plain_cut m c cs (Some k) h = absurd (not_cut (Ok (k, 1)) refl h)
plain_cut m c cs None h = elim (may_begin_number c) as (λ b. may_begin_number c ≡ b → cond b (number_or_dot (c ∷ cs)) (cond (may_begin_name c) (name_or_word (c ∷ cs)) (Err NoToken)) ≡ Err UnexpectedEnd → IsCut m (c ∷ cs)) [
  | true ↦ λ q k. number_cut m c cs q k
  | false ↦ λ q k. elim (may_begin_name c) as (λ b. may_begin_name c ≡ b → cond b (name_or_word (c ∷ cs)) (Err NoToken) ≡ Err UnexpectedEnd → IsCut m (c ∷ cs)) [
    | true ↦ λ p j. name_cut m c cs p j
    | false ↦ λ p j. absurd (not_cut (Err NoToken) refl j)
  ] refl k
] refl h

cut_off : (m : Bool) (cs : List ℕ) → token_at m cs ≡ Err UnexpectedEnd → IsCut m cs
cut_off m [] h = inl (Dot, codes ".", refl)
cut_off m (c ∷ cs) h = elim (c == 60) as (λ b. (c == 60) ≡ b → cond b (iri_ref cs) (cond (c == 34 || c == 39) (string_literal c cs) (cond (c == 64) (at_word m cs) (cond (c == 95) (label cs) (cond (c == 94) (carets cs) (plain_token c (c ∷ cs)))))) ≡ Err UnexpectedEnd → IsCut m (c ∷ cs)) [
  | true ↦ λ q k. iri_cut m c cs (eqb-true c 60 q) (enclosed_cut Iri cs (iri_err (enclosed_length Iri 0 cs) UnexpectedEnd k))
  | false ↦ λ q k. elim (c == 34 || c == 39) as (λ b. (c == 34 || c == 39) ≡ b → cond b (string_literal c cs) (cond (c == 64) (at_word m cs) (cond (c == 95) (label cs) (cond (c == 94) (carets cs) (plain_token c (c ∷ cs))))) ≡ Err UnexpectedEnd → IsCut m (c ∷ cs)) [
    | true ↦ λ q k. string_at_cut m c cs q k
    | false ↦ λ q k. elim (c == 64) as (λ b. (c == 64) ≡ b → cond b (at_word m cs) (cond (c == 95) (label cs) (cond (c == 94) (carets cs) (plain_token c (c ∷ cs)))) ≡ Err UnexpectedEnd → IsCut m (c ∷ cs)) [
      | true ↦ λ q k. at_cut m c cs (eqb-true c 64 q) k
      | false ↦ λ q k. elim (c == 95) as (λ b. (c == 95) ≡ b → cond b (label cs) (cond (c == 94) (carets cs) (plain_token c (c ∷ cs))) ≡ Err UnexpectedEnd → IsCut m (c ∷ cs)) [
        | true ↦ λ q k. label_cut m c cs (eqb-true c 95 q) k
        | false ↦ λ q k. elim (c == 94) as (λ b. (c == 94) ≡ b → cond b (carets cs) (plain_token c (c ∷ cs)) ≡ Err UnexpectedEnd → IsCut m (c ∷ cs)) [
          | true ↦ λ q k. carets_cut m c cs (eqb-true c 94 q) k
          | false ↦ λ q k. plain_cut m c cs (punctuation c) k
        ] refl k
      ] refl k
    ] refl k
  ] refl k
] refl h

-- And the other way round. At the text's end each token is whole.
nothing : (a : ℕ) (r : List ℕ) → [] ≡ a ∷ r → ⊥
nothing a r e = cc

front_none : (s r : List ℕ) → [] ≡ s ++ r → s ≡ []
front_none [] r e = refl
front_none (c ∷ s) r e = absurd (nothing c (s ++ r) e)

whole_at_end : (k : TokenKind) (t : List ℕ) → IsWhole k t []
whole_at_end A t = refl
whole_at_end True t = refl
whole_at_end False t = refl
whole_at_end Prefix t = refl
whole_at_end Base t = refl
whole_at_end AtPrefix t = λ s r e h. front_none s r e
whole_at_end AtBase t = λ s r e h. front_none s r e
whole_at_end (StringLiteral q) t = λ r two e. nothing (quote_of q) r e
whole_at_end _ t = tt

string_value_is : (c : ℕ) (q : Quotes) (t : List ℕ) → quotes_at c t ≡ q → string_literal c t ≡ string_lexeme q (enclosed_length (Text q) 0 (drop (more_quotes q) t))
string_value_is c q t is = ap (λ p. string_lexeme p (enclosed_length (Text p) 0 (drop (more_quotes p) t))) is

begun_ends : (m : Bool) (cs : List ℕ) (r : Lexeme) → token_at m cs ≡ r → HasNoToken m cs → BeginsToken m cs → r ≡ Err UnexpectedEnd
begun_ends m cs (Ok p) is none begun =
    let here : IsFound m (Ok p) cs = subst (λ x. IsFound m x cs) is (token_found m cs) in
    absurd (none p.0 (take p.1 cs) (drop p.1 cs) (sym (take-append-drop p.1 cs)) here.0 here.1)
begun_ends m cs (Err f) is none (k, more, token) = elim (is_early f) as (λ b. is_early f ≡ b → (let r : Lexeme = Err f in r) ≡ Err UnexpectedEnd) [
  | true ↦ λ e. ap (λ x. Err x) (early_is f e)
  | false ↦ λ e.
      let still : token_at m ((cs ++ more) ++ []) ≡ Err f = ap (token_at m) (append-nil (cs ++ more)) ∙ stable m cs more f (other_is f e) is in
      absurd (subst (λ x. Reaches k x (length (cs ++ more))) still (reached m k (cs ++ more) [] token (whole_at_end k (cs ++ more))))
] refl

-- where a string ends within an escape its quotes are found
no_first : (q : Quotes) (ps : List (List ℕ)) (n : ℕ) (d : List ℕ) → quotes_length q ≡ 1 → AllByRecursion (IsPiece (Text q)) ps → n < quotes_length q → (leading_marks (quote_of q) 2 (joined_texts ps ++ (replicate n (quote_of q) ++ 92 ∷ d)) == 2) ≡ false
no_first q [] n d one all few =
    let none : n ≡ 0 = omega arith in
    let m = quote_of q in
    ap (λ k. leading_marks m 2 (replicate k m ++ 92 ∷ d) == 2) none ∙ ap (λ k. k == 2) (other_first (Text q) 92 2 d (backslash_no_mark (Text q)))
no_first q (p ∷ ps) n d one ((k, v, is, less, met), all) few =
    let none : k ≡ 0 = omega arith in
    let m = quote_of q in
    let same : p ≡ v = is ∙ ap (λ j. replicate j m ++ v) none in
    let rest = joined_texts ps ++ (replicate n m ++ 92 ∷ d) in
    let whole : (p ++ joined_texts ps) ++ (replicate n m ++ 92 ∷ d) ≡ v ++ rest = append_assoc p (joined_texts ps) (replicate n m ++ 92 ∷ d) ∙ ap (λ x. x ++ rest) same in
    let first = unit_first (Text q) v rest 2 met in
    ap (λ x. leading_marks m 2 x == 2) whole ∙ ap (λ j. j == 2) first.0

string_ends : (m : Bool) (q : Quotes) (b : List ℕ) → IsCutEnclosed (Text q) b → token_at m (replicate (quotes_length q) (quote_of q) ++ b) ≡ Err UnexpectedEnd
string_ends m quotes.Double b (ps, n, d, parts, all, few, cut) =
    let t = joined_texts ps ++ (replicate n 34 ++ 92 ∷ d) in
    let kind : quotes_at 34 t ≡ quotes.Double = ap (λ x. cond x quotes.LongDouble quotes.Double) (no_first quotes.Double ps n d refl all few) in
    ap (string_literal 34) parts ∙ string_value_is 34 quotes.Double t kind ∙ ap (string_lexeme quotes.Double) (cut_met (Text quotes.Double) ps n d all few cut)
string_ends m quotes.Single b (ps, n, d, parts, all, few, cut) =
    let t = joined_texts ps ++ (replicate n 39 ++ 92 ∷ d) in
    let kind : quotes_at 39 t ≡ quotes.Single = ap (λ x. cond x quotes.LongSingle quotes.Single) (no_first quotes.Single ps n d refl all few) in
    ap (string_literal 39) parts ∙ string_value_is 39 quotes.Single t kind ∙ ap (string_lexeme quotes.Single) (cut_met (Text quotes.Single) ps n d all few cut)
string_ends m quotes.LongDouble b (ps, n, d, parts, all, few, cut) =
    let t = joined_texts ps ++ (replicate n 34 ++ 92 ∷ d) in
    let kind : quotes_at 34 (34 ∷ 34 ∷ t) ≡ quotes.LongDouble = ap (λ x. cond x quotes.LongDouble quotes.Double) (two_more 34 t) in
    ap (λ x. string_literal 34 (34 ∷ 34 ∷ x)) parts ∙ string_value_is 34 quotes.LongDouble (34 ∷ 34 ∷ t) kind ∙ ap (string_lexeme quotes.LongDouble) (cut_met (Text quotes.LongDouble) ps n d all few cut)
string_ends m quotes.LongSingle b (ps, n, d, parts, all, few, cut) =
    let t = joined_texts ps ++ (replicate n 39 ++ 92 ∷ d) in
    let kind : quotes_at 39 (39 ∷ 39 ∷ t) ≡ quotes.LongSingle = ap (λ x. cond x quotes.LongSingle quotes.Single) (two_more 39 t) in
    ap (λ x. string_literal 39 (39 ∷ 39 ∷ x)) parts ∙ string_value_is 39 quotes.LongSingle (39 ∷ 39 ∷ t) kind ∙ ap (string_lexeme quotes.LongSingle) (cut_met (Text quotes.LongSingle) ps n d all few cut)

escape_ends : (m : Bool) (cs : List ℕ) → EndsInEscape cs → token_at m cs ≡ Err UnexpectedEnd
escape_ends m cs (inl (b, is, (ps, n, d, parts, all, few, cut))) = ap (token_at m) (is ∙ ap (λ x. 60 ∷ x) parts) ∙ ap iri_lexeme (cut_met Iri ps n d all few cut)
escape_ends m cs (inr (q, b, is, cut)) = ap (token_at m) is ∙ string_ends m q b cut

ends_at : (m : Bool) (cs : List ℕ) → HasNoToken m cs → IsCut m cs → token_at m cs ≡ Err UnexpectedEnd
ends_at m cs none (inl begun) = begun_ends m cs (token_at m cs) refl none begun
ends_at m cs none (inr escape) = escape_ends m cs escape

pub ends_early : EndsEarly
ends_early m text = ((λ h. (misses_none m text UnexpectedEnd h, cut_off m text h)), (λ h. ends_at m text h.0 h.1))
