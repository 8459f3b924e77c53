-- The token at a place reaches over every token that stands there.
use Rattle.std.proofs.Common.{◌≡◌, ◌∙◌, ℕ, zero, suc, ◌+◌, ◌-◌, ◌<◌, ◌≤◌, Bool, true, false, cond, ◌==◌, ◌||◌, List, [], ◌∷◌, ◌++◌, length, take, drop, Option, Some, None, Ok, Err, refl, sym, ap, subst, arith, append_assoc, append-nil, length-append, ◌⊎◌, inl, inr}
use Rattle.std.specs.Prelude.{map, codes, replicate}
use Rattle.std.specs.List.{AllByRecursion}
use Rattle.std.specs.Char.{to_ascii_lowercase}
use Rattle.std.proofs.lemmas.Bool.{eqb-true, eq-eqb}
use Rattle.std.proofs.lemmas.Bool.Decides.{nat_tests}
use Rattle.rdf_lexical.specs.Characters.{is_within}
use Rattle.rdf_lexical.specs.Quoting.{quotes_length}
use Rattle.std.proofs.lemmas.List.{length-take-le, take-append-drop}
use Rattle.std.proofs.Math.Seq.{drop-append_seam, take-append_seam, take-append-add}
use Rattle.rdf_lexical.specs.declared.quoting.Quotes.{Quotes}
use Rattle.rdf_lexical.specs.declared.quoting.Quotes.TheVariants as quotes
use Rattle.turtle_lex.specs.declared.token.TokenKind.{TokenKind}
use Rattle.turtle_lex.specs.declared.token.TokenKind.TheVariants.{IriRef, PrefixName, PrefixedName, BlankNodeLabel, LanguageTag, Integer, Decimal, Double, StringLiteral, Dot, Semicolon, Comma, OpenBracket, CloseBracket, OpenParenthesis, CloseParenthesis, Carets, A, True, False, Prefix, Base, AtPrefix, AtBase}
use Rattle.rdf_lexical.specs.declared.refusal.RefusalKind.TheVariants.{NoToken}
use Rattle.rdf_lexical.specs.declared.classes.Class.TheVariants.{Sign, Digit, Letter, NameStart, Name, NameOrDot, NameUnderscoreOrDigit}
use Rattle.rdf_lexical.specs.declared.enclosing.Enclosed.TheVariants.{Iri, Text}
use Rattle.rdf_lexical.specs.Classes.{holds, begins_with, run_length}
use Rattle.rdf_lexical.specs.Names.{name_length}
use Rattle.turtle_lex.specs.Names.{prefix_length, local_length}
use Rattle.turtle_lex.specs.Numbers.{number}
use Rattle.turtle_lex.specs.Words.{Lexeme, word_kind, language_tag, directive, directive_kind, lexeme_of, begins_directive, word}
use Rattle.rdf_lexical.specs.Tags.{tag_length}
use Rattle.turtle_lex.specs.Enclosed.{iri_lexeme, quotes_at, string_lexeme, string_literal, more_quotes}
use Rattle.rdf_lexical.specs.Enclosed.{enclosed_length, leading_marks, quote_of}
use Rattle.turtle_lex.specs.Tokens.{may_begin_number, may_begin_name, prefixed, name_at, name_or_word, number_found, number_or_dot, token_at}
use Rattle.rdf_lexical.specs.Productions.{AllOf, SomeOf, joined_texts, IsLabel, IsPiece, IsIriRef, IsString, IsLanguageTag}
use Rattle.turtle_lex.specs.Productions.{IsSign, IsInteger, IsDecimal, IsMantissa, IsDouble, IsPrefix, IsPrefixName, IsPrefixedName, IsToken, IsWhole}
use Rattle.rdf_lexical.proofs.Runs.{run_exact}
use Rattle.turtle_lex.proofs.Dispatch.{refuted, at_number, at_name}
use Rattle.turtle_lex.proofs.NumberTokens.{NumberReaches, integer_reached, decimal_reached, double_reached}
use Rattle.turtle_lex.proofs.NumberTexts.{IsNumber, GivesNumber, number_shape}
use Rattle.turtle_lex.proofs.NumberKinds.{one_kind, no_dot}
use Rattle.turtle_lex.proofs.NameTokens.{label_reached, prefix_reached, local_reached}
use Rattle.rdf_lexical.proofs.EnclosedTokens.{no_marks, enclosed_met, unit_first}
use Rattle.turtle_lex.proofs.WordTokens.{prefix_kind, base_kind, letters_of, letters_begin, letters_name, name_over}
use Rattle.rdf_lexical.proofs.TagTexts.{tag_reached, tag_some, tag_shape, tag_bound}

-- a token of at least so many characters, and of this kind where it has just so many
abbrev pub Reaches : TokenKind → Lexeme → ℕ → Type 0
Reaches k (Ok p) n = (n ≤ p.1) × (p.1 ≡ n → p.0 ≡ k)
Reaches k (Err f) n = ⊥

-- numbers
number_reaches : (k : TokenKind) (r : Option (TokenKind × ℕ)) (t u : List ℕ) → IsNumber k t → GivesNumber r (t ++ u) → NumberReaches r (length t) → Reaches k (number_found r (t ++ u)) (length t)
number_reaches k None t u is given h = absurd h
number_reaches k (Some p) t u is given h = (h, λ e. one_kind p.0 k t (subst (λ (x : List ℕ). IsNumber p.0 x) (ap (λ n. take n (t ++ u)) e ∙ take-append_seam t u) given) is)

abbrev BeginsNumber : List ℕ → Type 0
BeginsNumber t = (c : ℕ) × (r : List ℕ) × (t ≡ c ∷ r) × (may_begin_number c ≡ true)

digit_begins : (c : ℕ) → holds Digit c ≡ true → may_begin_number c ≡ true
digit_begins c h = elim (c == 46 || holds Sign c) as (λ b. (b || holds Digit c) ≡ true) [ true ↦ refl | false ↦ h ]

sign_begins : (c : ℕ) → holds Sign c ≡ true → may_begin_number c ≡ true
sign_begins c h = elim (c == 46) as (λ b. (b || holds Sign c || holds Digit c) ≡ true) [ true ↦ refl | false ↦ rw h refl ]

digits_begin : (d r : List ℕ) → begins_with Digit d ≡ true → BeginsNumber (d ++ r)
digits_begin [] r h = cc
digits_begin (c ∷ d) r h = (c, d ++ r, refl, digit_begins c h)

dot_begins : (d r : List ℕ) → AllOf Digit d → BeginsNumber (d ++ 46 ∷ r)
dot_begins [] r all = (46, r, refl, refl)
dot_begins (c ∷ d) r all = (c, d ++ 46 ∷ r, refl, digit_begins c all.0)

behind_sign : (s r : List ℕ) → IsSign s → BeginsNumber r → BeginsNumber (s ++ r)
behind_sign s r (inl e) met = subst (λ (x : List ℕ). BeginsNumber (x ++ r)) (sym e) met
behind_sign s r (inr (c, e, h)) met = subst (λ (x : List ℕ). BeginsNumber (x ++ r)) (sym e) (c, r, refl, sign_begins c h)

mantissa_begins : (m r : List ℕ) → IsMantissa m → BeginsNumber (m ++ r)
mantissa_begins m r (inl digits) = digits_begin m r digits.0
mantissa_begins m r (inr (d, f, e, digits, fraction, either)) = subst (λ (x : List ℕ). BeginsNumber x) (sym (ap (λ x. x ++ r) e ∙ append_assoc d (46 ∷ f) r)) (dot_begins d (f ++ r) digits)

number_at : (m : Bool) (k : TokenKind) (t u : List ℕ) → IsNumber k t → BeginsNumber t → NumberReaches (number (t ++ u)) (length t) → Reaches k (token_at m (t ++ u)) (length t)
number_at m k t u is (c, r, e, h) reached =
    let whole : t ++ u ≡ c ∷ (r ++ u) = ap (λ x. x ++ u) e in
    let same : token_at m (t ++ u) ≡ number_or_dot (t ++ u) = ap (token_at m) whole ∙ at_number m c (r ++ u) h ∙ ap number_or_dot (sym whole) in
    subst (λ x. Reaches k x (length t)) (sym same) (number_reaches k (number (t ++ u)) t u is (number_shape (t ++ u)) reached)

integer_begins : (t : List ℕ) → IsInteger t → BeginsNumber t
integer_begins t (s, d, e, sign, digits) = subst (λ (x : List ℕ). BeginsNumber x) (sym e) (behind_sign s d sign (subst (λ (x : List ℕ). BeginsNumber x) (append-nil d) (digits_begin d [] digits.0)))

decimal_begins : (t : List ℕ) → IsDecimal t → BeginsNumber t
decimal_begins t (s, d, f, e, sign, digits, fraction) = subst (λ (x : List ℕ). BeginsNumber x) (sym e) (behind_sign s (d ++ 46 ∷ f) sign (dot_begins d f digits))

double_begins : (t : List ℕ) → IsDouble t → BeginsNumber t
double_begins t (s, m, x, e, sign, mantissa, exponent) = subst (λ (x : List ℕ). BeginsNumber x) (sym e) (behind_sign s (m ++ x) sign (mantissa_begins m x mantissa))

-- the dot
begun : (t : List ℕ) → BeginsNumber t → 0 < length t
begun t (c, r, e, h) = let size = ap length e in omega arith

some_taken : (n : ℕ) (cs : List ℕ) → 0 < length (take n cs) → 1 ≤ n
some_taken zero cs h = absurd (omega arith)
some_taken (suc n) cs h = omega arith

not_empty : (k : TokenKind) (t : List ℕ) → IsNumber k t → 0 < length t
not_empty Integer t h = begun t (integer_begins t h)
not_empty Decimal t h = begun t (decimal_begins t h)
not_empty Double t h = begun t (double_begins t h)
not_empty _ t h = absurd h

dot_found : (r : Option (TokenKind × ℕ)) (u : List ℕ) → GivesNumber r (46 ∷ u) → Reaches Dot (number_found r (46 ∷ u)) 1
dot_found None u h = (omega arith, λ e. refl)
dot_found (Some p) u h = (some_taken p.1 (46 ∷ u) (not_empty p.0 (take p.1 (46 ∷ u)) h), λ e. absurd (no_dot p.0 (subst (λ (x : List ℕ). IsNumber p.0 x) (ap (λ n. take n (46 ∷ u)) e) h)))

-- names
abbrev BeginsName : List ℕ → Type 0
BeginsName t = (c : ℕ) × (r : List ℕ) × (t ≡ c ∷ r) × (may_begin_name c ≡ true)

start_begins : (c : ℕ) → holds NameStart c ≡ true → may_begin_name c ≡ true
start_begins c h = elim (c == 58) as (λ b. (b || holds NameStart c) ≡ true) [ true ↦ refl | false ↦ h ]

prefix_begins : (p r : List ℕ) → (p ≡ []) ⊎ IsPrefix p → BeginsName (p ++ 58 ∷ r)
prefix_begins p r (inl e) = subst (λ (x : List ℕ). BeginsName (x ++ 58 ∷ r)) (sym e) (58, r, refl, refl)
prefix_begins p r (inr (c, v, e, first, tail)) = subst (λ (x : List ℕ). BeginsName (x ++ 58 ∷ r)) (sym e) (c, v ++ 58 ∷ r, refl, start_begins c first)

name_token : (m : Bool) (cs : List ℕ) → BeginsName cs → token_at m cs ≡ name_or_word cs
name_token m cs (c, r, e, h) = ap (token_at m) e ∙ at_name m c r h ∙ ap name_or_word (sym e)

prefixed_at : (m : Bool) (p r : List ℕ) → (p ≡ []) ⊎ IsPrefix p → token_at m (p ++ 58 ∷ r) ≡ Ok (prefixed (length p) r)
prefixed_at m p r met =
    let size = prefix_reached p r met in
    name_token m (p ++ 58 ∷ r) (prefix_begins p r met)
    ∙ ap (λ n. name_at (p ++ 58 ∷ r) n (drop n (p ++ 58 ∷ r))) size
    ∙ ap (name_at (p ++ 58 ∷ r) (length p)) (drop-append_seam p (58 ∷ r))

no_local : (n : ℕ) → n ≡ 0 → cond (n == 0) PrefixName PrefixedName ≡ PrefixName
no_local n e = ap (λ k. cond (k == 0) PrefixName PrefixedName) e

some_local : (n : ℕ) → 0 < n → cond (n == 0) PrefixName PrefixedName ≡ PrefixedName
some_local n h = let other : (n == 0) ≡ false = grind (arith, nat_tests) in ap (λ b. cond b PrefixName PrefixedName) other

prefix_name_reached : (m : Bool) (t u : List ℕ) → IsPrefixName t → Reaches PrefixName (token_at m (t ++ u)) (length t)
prefix_name_reached m t u (p, e, met) =
    let whole : t ++ u ≡ p ++ 58 ∷ u = ap (λ x. x ++ u) e ∙ append_assoc p (58 ∷ []) u in
    let size : length t ≡ length p + 1 = ap length e ∙ length-append p (58 ∷ []) in
    subst (λ x. Reaches PrefixName x (length t)) (sym (ap (token_at m) whole ∙ prefixed_at m p u met)) (omega arith, λ f. no_local (local_length u) (omega arith))

prefixed_name_reached : (m : Bool) (t u : List ℕ) → IsPrefixedName t → Reaches PrefixedName (token_at m (t ++ u)) (length t)
prefixed_name_reached m t u (n, l, e, (p, f, met), local) =
    let both : t ≡ (p ++ 58 ∷ []) ++ l = e ∙ ap (λ x. x ++ l) f in
    let whole : t ++ u ≡ p ++ 58 ∷ (l ++ u) = ap (λ x. x ++ u) (both ∙ append_assoc p (58 ∷ []) l) ∙ append_assoc p (58 ∷ l) u in
    let size : length t ≡ length p + suc (length l) = ap length (both ∙ append_assoc p (58 ∷ []) l) ∙ length-append p (58 ∷ l) in
    let more = local_reached l u local in
    subst (λ x. Reaches PrefixedName x (length t)) (sym (ap (token_at m) whole ∙ prefixed_at m p (l ++ u) met)) (omega (arith, more.0), λ f. some_local (local_length (l ++ u)) (omega (arith, more.0, more.1)))

blank_label_reached : (m : Bool) (t u : List ℕ) → IsLabel NameUnderscoreOrDigit Name t → Reaches BlankNodeLabel (token_at m (t ++ u)) (length t)
blank_label_reached m t u (c, v, e, first, tail) =
    let more = label_reached c v u first tail in
    let value : token_at m (95 ∷ 58 ∷ c ∷ (v ++ u)) ≡ Ok (BlankNodeLabel, 2 + name_length Name (c ∷ (v ++ u))) = ap (λ b. cond b (Ok (BlankNodeLabel, 2 + name_length Name (c ∷ (v ++ u)))) (Err NoToken)) first in
    subst (λ (x : List ℕ). Reaches BlankNodeLabel (token_at m (x ++ u)) (length x)) (sym e) (subst (λ x. Reaches BlankNodeLabel x (suc (suc (suc (length v))))) (sym value) (omega arith, λ f. refl))

-- IRIs and strings
iri_reached : (m : Bool) (t u : List ℕ) → IsIriRef t → Reaches IriRef (token_at m (t ++ u)) (length t)
iri_reached m t u (b, e, (ps, f, all)) =
    let whole : t ≡ 60 ∷ (joined_texts ps ++ 62 ∷ []) = e ∙ ap (λ x. 60 ∷ x) f in
    let met : enclosed_length Iri 0 ((joined_texts ps ++ 62 ∷ []) ++ u) ≡ Ok (length (joined_texts ps ++ 62 ∷ [])) = enclosed_met Iri ps u all in
    subst (λ (x : List ℕ). Reaches IriRef (token_at m (x ++ u)) (length x)) (sym whole) (subst (λ r. Reaches IriRef (iri_lexeme r) (suc (length (joined_texts ps ++ 62 ∷ [])))) (sym met) (omega arith, λ f. refl))

one_then : (m : ℕ) (u : List ℕ) → ((r : List ℕ) → u ≡ m ∷ r → ⊥) → leading_marks m 2 (m ∷ u) ≡ 1
one_then m [] never = ap (λ b. cond b (suc (leading_marks m 1 [])) 0) (eq-eqb m m refl)
one_then m (c ∷ r) never =
    let other : (c == m) ≡ false = refuted (c == m) (λ h. never r (ap (λ x. x ∷ r) (eqb-true c m h))) in
    ap (λ b. cond b (suc (leading_marks m 1 (c ∷ r))) 0) (eq-eqb m m refl) ∙ ap (λ b. suc (cond b (suc (leading_marks m 0 r)) 0)) other

-- a short string begins with one quote
abbrev OneQuote : Quotes → List ℕ → Type 0
OneQuote q x = (leading_marks (quote_of q) 2 x == 2) ≡ false

short_opening : (q : Quotes) (ps : List (List ℕ)) (u : List ℕ) → quotes_length q ≡ 1 → AllByRecursion (IsPiece (Text q)) ps
    → ((r : List ℕ) → joined_texts ps ++ quote_of q ∷ [] ≡ quote_of q ∷ [] → u ≡ quote_of q ∷ r → ⊥) → OneQuote q ((joined_texts ps ++ quote_of q ∷ []) ++ u)
short_opening q [] u short all never = ap (λ n. n == 2) (one_then (quote_of q) u (λ r. never r refl))
short_opening q (p ∷ ps) u short ((n, v, is, few, met), all) never =
    let none : n ≡ 0 = omega arith in
    let m = quote_of q in
    let same : p ≡ v = is ∙ ap (λ k. replicate k m ++ v) none in
    let rest = (joined_texts ps ++ m ∷ []) ++ u in
    let whole : ((p ++ joined_texts ps) ++ m ∷ []) ++ u ≡ v ++ rest = ap (λ x. x ++ u) (append_assoc p (joined_texts ps) (m ∷ [])) ∙ append_assoc p (joined_texts ps ++ m ∷ []) u ∙ ap (λ x. x ++ rest) same in
    let first = unit_first (Text q) v rest 2 met in
    ap (λ x. leading_marks m 2 x == 2) whole ∙ ap (λ k. k == 2) first.0

string_at : (q : Quotes) (quote : ℕ) (x : List ℕ) (n : ℕ) → quotes_at quote x ≡ q → enclosed_length (Text q) 0 (drop (more_quotes q) x) ≡ Ok n → Reaches (StringLiteral q) (string_literal quote x) (suc (more_quotes q + n))
string_at q quote x n is met =
    let value : string_literal quote x ≡ string_lexeme q (Ok n) = ap (λ p. string_lexeme p (enclosed_length (Text p) 0 (drop (more_quotes p) x))) is ∙ ap (string_lexeme q) met in
    subst (λ r. Reaches (StringLiteral q) r (suc (more_quotes q + n))) (sym value) (omega arith, λ f. refl)

as_long : (k : TokenKind) (r : Lexeme) (n m : ℕ) → Reaches k r n → n ≡ m → Reaches k r m
as_long k r n m h same = subst (λ x. Reaches k r x) same h

pub two_more : (m : ℕ) (x : List ℕ) → (leading_marks m 2 (m ∷ m ∷ x) == 2) ≡ true
two_more m x =
    ap (λ b. cond b (suc (cond b (suc (leading_marks m 0 x)) 0)) 0 == 2) (eq-eqb m m refl) ∙ ap (λ k. suc (suc k) == 2) (no_marks m x)

string_reached : (m : Bool) (q : Quotes) (t u : List ℕ) → IsString q t → IsWhole (StringLiteral q) t u → Reaches (StringLiteral q) (token_at m (t ++ u)) (length t)
string_reached m quotes.Double t u (b, e, (ps, f, all)) never =
    let c = joined_texts ps ++ 34 ∷ [] in
    let whole : t ≡ 34 ∷ c = e ∙ ap (λ x. 34 ∷ x) f in
    let one = short_opening quotes.Double ps u refl all (λ r g. never r (whole ∙ ap (λ x. 34 ∷ x) g)) in
    let kind : quotes_at 34 (c ++ u) ≡ quotes.Double = ap (λ b. cond b quotes.LongDouble quotes.Double) one in
    subst (λ (x : List ℕ). Reaches (StringLiteral quotes.Double) (token_at m (x ++ u)) (length x)) (sym whole) (as_long (StringLiteral quotes.Double) (string_literal 34 (c ++ u)) (suc (0 + length c)) (suc (length c)) (string_at quotes.Double 34 (c ++ u) (length c) kind (enclosed_met (Text quotes.Double) ps u all)) (omega arith))
string_reached m quotes.Single t u (b, e, (ps, f, all)) never =
    let c = joined_texts ps ++ 39 ∷ [] in
    let whole : t ≡ 39 ∷ c = e ∙ ap (λ x. 39 ∷ x) f in
    let one = short_opening quotes.Single ps u refl all (λ r g. never r (whole ∙ ap (λ x. 39 ∷ x) g)) in
    let kind : quotes_at 39 (c ++ u) ≡ quotes.Single = ap (λ b. cond b quotes.LongSingle quotes.Single) one in
    subst (λ (x : List ℕ). Reaches (StringLiteral quotes.Single) (token_at m (x ++ u)) (length x)) (sym whole) (as_long (StringLiteral quotes.Single) (string_literal 39 (c ++ u)) (suc (0 + length c)) (suc (length c)) (string_at quotes.Single 39 (c ++ u) (length c) kind (enclosed_met (Text quotes.Single) ps u all)) (omega arith))
string_reached m quotes.LongDouble t u (b, e, (ps, f, all)) never =
    let c = joined_texts ps ++ 34 ∷ 34 ∷ 34 ∷ [] in
    let whole : t ≡ 34 ∷ 34 ∷ 34 ∷ c = e ∙ ap (λ x. 34 ∷ 34 ∷ 34 ∷ x) f in
    let kind : quotes_at 34 (34 ∷ 34 ∷ (c ++ u)) ≡ quotes.LongDouble = ap (λ b. cond b quotes.LongDouble quotes.Double) (two_more 34 (c ++ u)) in
    subst (λ (x : List ℕ). Reaches (StringLiteral quotes.LongDouble) (token_at m (x ++ u)) (length x)) (sym whole) (as_long (StringLiteral quotes.LongDouble) (string_literal 34 (34 ∷ 34 ∷ (c ++ u))) (suc (2 + length c)) (suc (suc (suc (length c)))) (string_at quotes.LongDouble 34 (34 ∷ 34 ∷ (c ++ u)) (length c) kind (enclosed_met (Text quotes.LongDouble) ps u all)) (omega arith))
string_reached m quotes.LongSingle t u (b, e, (ps, f, all)) never =
    let c = joined_texts ps ++ 39 ∷ 39 ∷ 39 ∷ [] in
    let whole : t ≡ 39 ∷ 39 ∷ 39 ∷ c = e ∙ ap (λ x. 39 ∷ 39 ∷ 39 ∷ x) f in
    let kind : quotes_at 39 (39 ∷ 39 ∷ (c ++ u)) ≡ quotes.LongSingle = ap (λ b. cond b quotes.LongSingle quotes.Single) (two_more 39 (c ++ u)) in
    subst (λ (x : List ℕ). Reaches (StringLiteral quotes.LongSingle) (token_at m (x ++ u)) (length x)) (sym whole) (as_long (StringLiteral quotes.LongSingle) (string_literal 39 (39 ∷ 39 ∷ (c ++ u))) (suc (2 + length c)) (suc (suc (suc (length c)))) (string_at quotes.LongSingle 39 (39 ∷ 39 ∷ (c ++ u)) (length c) kind (enclosed_met (Text quotes.LongSingle) ps u all)) (omega arith))

-- words
start_name : (t u : List ℕ) → begins_with NameStart t ≡ true → BeginsName (t ++ u)
start_name [] u h = cc
start_name (c ∷ t) u h = (c, t ++ u, refl, start_begins c h)

start_more : (t u : List ℕ) → begins_with NameStart t ≡ true → begins_with NameStart (t ++ u) ≡ true
start_more [] u h = cc
start_more (c ∷ t) u h = h

name_or : (k : TokenKind) (cs : List ℕ) (p n : ℕ) (r : List ℕ) → n ≤ p → Reaches k (word cs) n → Reaches k (name_at cs p r) n
name_or k cs p n [] le h = h
name_or k cs p n (d ∷ ds) le h = elim (d == 58) as (λ b. Reaches k (cond b (Ok (prefixed p ds)) (word cs)) n) [ true ↦ (omega arith, λ e. absurd (omega arith)) | false ↦ h ]

word_reached : (m : Bool) (t u : List ℕ) (k : TokenKind) → begins_with NameStart t ≡ true → AllOf Name t → begins_with Name u ≡ false → word_kind t ≡ Some k → Reaches k (token_at m (t ++ u)) (length t)
word_reached m t u k first all ends kind =
    let cs = t ++ u in
    let run : run_length Name cs ≡ length t = run_exact Name t u all ends in
    let value : word cs ≡ Ok (k, length t) =
    ap (λ n. lexeme_of (word_kind (take n cs)) n (run_length NameOrDot cs == length cs)) run
    ∙ ap (λ x. lexeme_of (word_kind x) (length t) (run_length NameOrDot cs == length cs)) (take-append_seam t u)
    ∙ ap (λ o. lexeme_of o (length t) (run_length NameOrDot cs == length cs)) kind in
    let over = name_over t u all in
    let front : prefix_length cs ≡ name_length Name cs = ap (λ b. cond b (name_length Name cs) 0) (start_more t u first) in
    subst (λ x. Reaches k x (length t)) (sym (name_token m cs (start_name t u first)))
    (name_or k cs (prefix_length cs) (length t) (drop (prefix_length cs) cs) (omega arith) (subst (λ x. Reaches k x (length t)) (sym value) (omega arith, λ e. refl)))

cased_reached : (m : Bool) (t u l : List ℕ) (k : TokenKind) → map to_ascii_lowercase t ≡ l → AllByRecursion (λ d. is_within 97 122 d ≡ true) l → 0 < length t → begins_with Name u ≡ false → word_kind t ≡ Some k → Reaches k (token_at m (t ++ u)) (length t)
cased_reached m t u l k is lower some ends kind =
    let letters = letters_of t l is lower in
    word_reached m t u k (letters_begin t some letters) (letters_name t letters) ends kind

mapped : (t : List ℕ) → length (map to_ascii_lowercase t) ≡ length t
mapped [] = refl
mapped (c ∷ t) = ap suc (mapped t)

-- what `@` begins
tag_found : (y u : List ℕ) → IsLanguageTag (64 ∷ y) → Reaches LanguageTag (language_tag (y ++ u)) (suc (length y))
tag_found [] u h = let some = tag_some [] h in absurd (omega arith)
tag_found (c ∷ y) u h =
    let n = tag_length (c ∷ (y ++ u)) in
    let more = tag_reached (c ∷ y) u h in
    let any : (n == 0) ≡ false = grind (arith, nat_tests) in
    subst (λ x. Reaches LanguageTag x (suc (suc (length y)))) (sym (ap (λ b. cond b (Err NoToken) (Ok (LanguageTag, suc n))) any)) (omega arith, λ e. refl)

tag_again : (t y : List ℕ) → t ≡ 64 ∷ y → IsLanguageTag t → IsLanguageTag (64 ∷ y)
tag_again t y e h = subst (λ (x : List ℕ). IsLanguageTag x) e h

tag_begins : (t : List ℕ) → IsLanguageTag t → (y : List ℕ) × (t ≡ 64 ∷ y)
tag_begins t (l, ts, is, some, all) = (l ++ joined_texts ts, is)

language_tag_reached : (t u : List ℕ) → IsLanguageTag t → Reaches LanguageTag (token_at true (t ++ u)) (length t)
language_tag_reached t u h =
    let y = tag_begins t h in
    subst (λ (x : List ℕ). Reaches LanguageTag (token_at true (x ++ u)) (length x)) (sym y.1) (tag_found y.0 u (tag_again t y.0 y.1 h))

-- the word after `@` as far as a LANGTAG goes
directive_length : (y u : List ℕ) → IsLanguageTag (64 ∷ y) → ((s r : List ℕ) → u ≡ s ++ r → IsLanguageTag (64 ∷ (y ++ s)) → s ≡ []) → tag_length (y ++ u) ≡ length y
directive_length y u h whole =
    let n = tag_length (y ++ u) in
    let more = tag_reached y u h in
    let some = tag_some y h in
    let most = tag_bound (y ++ u) in
    let size : length (y ++ u) ≡ length y + length u = length-append y u in
    let k = n - length y in
    let sum : n ≡ length y + k = omega arith in
    let taken : take n (y ++ u) ≡ y ++ take k u = ap (λ j. take j (y ++ u)) sum ∙ take-append-add y u k in
    let longer : IsLanguageTag (64 ∷ (y ++ take k u)) = subst (λ (x : List ℕ). IsLanguageTag (64 ∷ x)) taken (tag_shape (y ++ u) (omega arith)) in
    let none : take k u ≡ [] = whole (take k u) (drop k u) (sym (take-append-drop k u)) longer in
    let empty : length (take k u) ≡ 0 = ap length none in
    let full : length (take k u) ≡ k = length-take-le k u (omega arith) in
    omega arith

directive_found : (y u : List ℕ) (k : TokenKind) → directive_kind y ≡ Some k → tag_length (y ++ u) ≡ length y → Reaches k (directive (y ++ u)) (suc (length y))
directive_found y u k kind size =
    let value : directive (y ++ u) ≡ Ok (k, suc (length y)) =
    ap (λ n. lexeme_of (directive_kind (take n (y ++ u))) (suc n) (begins_directive (y ++ u))) size
    ∙ ap (λ x. lexeme_of (directive_kind x) (suc (length y)) (begins_directive (y ++ u))) (take-append_seam y u)
    ∙ ap (λ o. lexeme_of o (suc (length y)) (begins_directive (y ++ u))) kind in
    subst (λ x. Reaches k x (suc (length y))) (sym value) (omega arith, λ e. refl)

directive_reached : (y t u : List ℕ) (k : TokenKind) → t ≡ 64 ∷ y → IsLanguageTag (64 ∷ y) → directive_kind y ≡ Some k → ((s r : List ℕ) → u ≡ s ++ r → IsLanguageTag (t ++ s) → s ≡ []) → Reaches k (token_at false (t ++ u)) (length t)
directive_reached y t u k is tag kind whole =
    let size = directive_length y u tag (λ s r e h. whole s r e (subst (λ (x : List ℕ). IsLanguageTag (x ++ s)) (sym is) h)) in
    subst (λ (x : List ℕ). Reaches k (token_at false (x ++ u)) (length x)) (sym is) (directive_found y u k kind size)

one_mark : (m : Bool) (k : TokenKind) (t u w : List ℕ) → t ≡ w → Reaches k (token_at m (w ++ u)) (length w) → Reaches k (token_at m (t ++ u)) (length t)
one_mark m k t u w is h = subst (λ (x : List ℕ). Reaches k (token_at m (x ++ u)) (length x)) (sym is) h

letters : (y : List ℕ) → SomeOf Letter y → IsLanguageTag (64 ∷ y)
letters y h = (y, [], ap (λ x. 64 ∷ x) (sym (append-nil y)), h, tt)

pub reached : (m : Bool) (k : TokenKind) (t u : List ℕ) → IsToken m k t → IsWhole k t u → Reaches k (token_at m (t ++ u)) (length t)
reached m IriRef t u h w = iri_reached m t u h
reached m PrefixName t u h w = prefix_name_reached m t u h
reached m PrefixedName t u h w = prefixed_name_reached m t u h
reached m BlankNodeLabel t u h w = blank_label_reached m t u h
reached m LanguageTag t u (after, h) w = subst (λ (b : Bool). Reaches LanguageTag (token_at b (t ++ u)) (length t)) (sym after) (language_tag_reached t u h)
reached m Integer t u h w = number_at m Integer t u h (integer_begins t h) (integer_reached t u h)
reached m Decimal t u h w = number_at m Decimal t u h (decimal_begins t h) (decimal_reached t u h)
reached m Double t u h w = number_at m Double t u h (double_begins t h) (double_reached t u h)
reached m (StringLiteral q) t u h w = string_reached m q t u h w
reached m Dot t u h w = one_mark m Dot t u (46 ∷ []) h (subst (λ x. Reaches Dot x 1) (sym (at_number m 46 u refl)) (dot_found (number (46 ∷ u)) u (number_shape (46 ∷ u))))
reached m Semicolon t u h w = one_mark m Semicolon t u (59 ∷ []) h (omega arith, λ e. refl)
reached m Comma t u h w = one_mark m Comma t u (44 ∷ []) h (omega arith, λ e. refl)
reached m OpenBracket t u h w = one_mark m OpenBracket t u (91 ∷ []) h (omega arith, λ e. refl)
reached m CloseBracket t u h w = one_mark m CloseBracket t u (93 ∷ []) h (omega arith, λ e. refl)
reached m OpenParenthesis t u h w = one_mark m OpenParenthesis t u (40 ∷ []) h (omega arith, λ e. refl)
reached m CloseParenthesis t u h w = one_mark m CloseParenthesis t u (41 ∷ []) h (omega arith, λ e. refl)
reached m Carets t u h w = one_mark m Carets t u (94 ∷ 94 ∷ []) h (omega arith, λ e. refl)
reached m A t u h w = one_mark m A t u (codes "a") h (word_reached m (codes "a") u A refl (refl, tt) w refl)
reached m True t u h w = one_mark m True t u (codes "true") h (word_reached m (codes "true") u True refl (refl, (refl, (refl, (refl, tt)))) w refl)
reached m False t u h w = one_mark m False t u (codes "false") h (word_reached m (codes "false") u False refl (refl, (refl, (refl, (refl, (refl, tt))))) w refl)
reached m Prefix t u h w = let size = ap length h in let same = mapped t in cased_reached m t u (codes "prefix") Prefix h (refl, (refl, (refl, (refl, (refl, (refl, tt)))))) (omega arith) w (prefix_kind t h)
reached m Base t u h w = let size = ap length h in let same = mapped t in cased_reached m t u (codes "base") Base h (refl, (refl, (refl, (refl, tt)))) (omega arith) w (base_kind t h)
reached m AtPrefix t u (after, h) w = subst (λ (b : Bool). Reaches AtPrefix (token_at b (t ++ u)) (length t)) (sym after) (directive_reached (codes "prefix") t u AtPrefix h (letters (codes "prefix") (refl, (refl, (refl, (refl, (refl, (refl, (refl, tt)))))))) refl w)
reached m AtBase t u (after, h) w = subst (λ (b : Bool). Reaches AtBase (token_at b (t ++ u)) (length t)) (sym after) (directive_reached (codes "base") t u AtBase h (letters (codes "base") (refl, (refl, (refl, (refl, (refl, tt)))))) refl w)
