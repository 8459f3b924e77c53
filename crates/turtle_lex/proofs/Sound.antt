-- What is found at a place is a token of its kind, and whole.
use Rattle.std.proofs.Common.{◌≡◌, ◌∙◌, ℕ, zero, suc, ◌+◌, ◌-◌, ◌<◌, ◌≤◌, Bool, true, false, cond, ◌==◌, ◌||◌, List, [], ◌∷◌, ◌++◌, length, take, drop, Option, Some, None, Ok, Err, refl, sym, ap, subst, arith, append_assoc, length-append, length-drop, ◌⊎◌}
use Rattle.std.specs.Prelude.{codes, replicate, bytes_eq}
use Rattle.std.proofs.lemmas.Bool.{eqb-true}
use Rattle.std.proofs.lemmas.Bool.Decides.{nat_tests}
use Rattle.std.proofs.lemmas.List.{length-take-le, take-append-drop}
use Rattle.std.proofs.Math.Seq.{take-add}
use Rattle.rdf_lexical.specs.declared.quoting.Quotes.{Quotes}
use Rattle.rdf_lexical.specs.declared.quoting.Quotes.TheVariants as quotes
use Rattle.rdf_lexical.specs.declared.refusal.RefusalKind.TheVariants.{NoToken, UnexpectedEnd}
use Rattle.turtle_lex.specs.declared.token.TokenKind.{TokenKind}
use Rattle.turtle_lex.specs.declared.token.TokenKind.TheVariants.{PrefixName, PrefixedName, BlankNodeLabel, LanguageTag, Integer, Decimal, Double, StringLiteral, Dot, Semicolon, Comma, OpenBracket, CloseBracket, OpenParenthesis, CloseParenthesis, Carets, AtPrefix, AtBase}
use Rattle.rdf_lexical.specs.declared.classes.Class.TheVariants.{NameUnderscoreOrDigit, Name, NameOrDot}
use Rattle.rdf_lexical.specs.declared.enclosing.Enclosed.TheVariants.{Iri, Text}
use Rattle.rdf_lexical.specs.Classes.{holds, begins_with, run_length}
use Rattle.rdf_lexical.specs.Names.{name_length}
use Rattle.turtle_lex.specs.Names.{prefix_length, local_length}
use Rattle.turtle_lex.specs.Numbers.{number}
use Rattle.turtle_lex.specs.Words.{Lexeme, word_kind, language_tag, directive, lexeme_of, begins_directive, at_word, word}
use Rattle.rdf_lexical.specs.Tags.{tag_length}
use Rattle.turtle_lex.specs.Enclosed.{iri_lexeme, iri_ref, string_lexeme, string_literal, more_quotes}
use Rattle.rdf_lexical.specs.Enclosed.{enclosed_length, leading_marks}
use Rattle.turtle_lex.specs.Tokens.{may_begin_number, may_begin_name, label, carets, prefixed, name_at, name_or_word, number_found, no_number, is_cut_number, number_or_dot, punctuation, plain_found, plain_token, token_at}
use Rattle.turtle_lex.specs.Productions.{IsPrefix, IsLocal, IsToken, IsWhole}
use Rattle.rdf_lexical.specs.Productions.{IsString, IsLanguageTag}
use Rattle.turtle_lex.proofs.NumberTexts.{IsNumber, GivesNumber, number_shape}
use Rattle.rdf_lexical.proofs.NameTails.{label_is_name, tail_shape}
use Rattle.turtle_lex.proofs.NameTexts.{prefix_shape, local_shape}
use Rattle.rdf_lexical.proofs.EnclosedTexts.{marks_shape, enclosed_shape, enclosed_bound}
use Rattle.turtle_lex.proofs.Bounds.{Within, local_bound, number_bound}
use Rattle.rdf_lexical.proofs.NameTails.{name_bound}
use Rattle.rdf_lexical.proofs.Runs.{run_bound}
use Rattle.turtle_lex.proofs.WordTokens.{word_same, WordIs, word_is, run_ends, name_over}
use Rattle.rdf_lexical.proofs.TagTexts.{tag_reached, tag_shape, tag_bound}
use Rattle.turtle_lex.proofs.Reached.{two_more}

abbrev pub IsFound : Bool → Lexeme → List ℕ → Type 0
IsFound m (Ok p) cs = IsToken m p.0 (take p.1 cs) × IsWhole p.0 (take p.1 cs) (drop p.1 cs) × (p.1 ≤ length cs)
IsFound m (Err f) cs = Unit {0}

empty : (s : List ℕ) → length s ≡ 0 → s ≡ []
empty [] h = refl
empty (c ∷ s) h = absurd (omega arith)

no_lexeme : (m : Bool) (cs : List ℕ) (is_cut : Bool) → IsFound m (cond is_cut (Err UnexpectedEnd) (Err NoToken)) cs
no_lexeme m cs true = tt
no_lexeme m cs false = tt

-- IRIs
iri_found : (m : Bool) (c : ℕ) (cs : List ℕ) → c ≡ 60 → IsFound m (iri_ref cs) (c ∷ cs)
iri_found m c cs is = elim (enclosed_length Iri 0 cs) as (λ r. enclosed_length Iri 0 cs ≡ r → IsFound m (iri_lexeme r) (c ∷ cs)) [
  | Ok n ↦ λ e. let most = enclosed_bound Iri cs n e in ((take n cs, ap (λ x. x ∷ take n cs) is, enclosed_shape Iri cs n e), tt, omega (arith, most.0))
  | Err f ↦ λ e. tt
] refl

-- strings
abbrev StringAt : Quotes → ℕ → List ℕ → Type 0
StringAt q c cs = (n : ℕ) → enclosed_length (Text q) 0 (drop (more_quotes q) cs) ≡ Ok n → IsString q (c ∷ take (more_quotes q + n) cs) × IsWhole (StringLiteral q) (c ∷ take (more_quotes q + n) cs) (drop (more_quotes q + n) cs)

by_quotes : (m : Bool) (q : Quotes) (c : ℕ) (cs : List ℕ) → StringAt q c cs → IsFound m (string_lexeme q (enclosed_length (Text q) 0 (drop (more_quotes q) cs))) (c ∷ cs)
by_quotes m q c cs at = elim (enclosed_length (Text q) 0 (drop (more_quotes q) cs)) as (λ r. enclosed_length (Text q) 0 (drop (more_quotes q) cs) ≡ r → IsFound m (string_lexeme q r) (c ∷ cs)) [
  | Ok n ↦ λ e.
      let most = enclosed_bound (Text q) (drop (more_quotes q) cs) n e in
      let size : length (drop (more_quotes q) cs) ≡ length cs - more_quotes q = length-drop (more_quotes q) cs in
      ((at n e).0, (at n e).1, omega (arith, most.0, most.1))
  | Err f ↦ λ e. tt
] refl

two_quotes : (c : ℕ) (cs r : List ℕ) → cs ≡ c ∷ c ∷ r → (leading_marks c 2 cs == 2) ≡ false → ⊥
two_quotes c cs r is other = let value : (leading_marks c 2 cs == 2) ≡ true = ap (λ x. leading_marks c 2 x == 2) is ∙ two_more c r in cc

short_whole : (c n : ℕ) (cs r : List ℕ) → (leading_marks c 2 cs == 2) ≡ false → c ∷ take n cs ≡ c ∷ c ∷ [] → drop n cs ≡ c ∷ r → ⊥
short_whole c n cs r other text rest =
    let one : take n cs ≡ c ∷ [] = cc in
    two_quotes c cs r (sym (take-append-drop n cs) ∙ ap (λ x. x ++ drop n cs) one ∙ ap (λ x. c ∷ x) rest) other

short_double : (c : ℕ) (cs : List ℕ) → c ≡ 34 → (leading_marks c 2 cs == 2) ≡ false → StringAt quotes.Double c cs
short_double c cs is other n e =
    let none : 0 + n ≡ n = omega arith in
    subst (λ k. IsString quotes.Double (c ∷ take k cs) × IsWhole (StringLiteral quotes.Double) (c ∷ take k cs) (drop k cs)) (sym none) (
      (take n cs, ap (λ x. x ∷ take n cs) is, enclosed_shape (Text quotes.Double) cs n e),
      λ r text rest. short_whole c n cs r other (text ∙ ap (λ x. x ∷ x ∷ []) (sym is)) (rest ∙ ap (λ x. x ∷ r) (sym is)),
    )

short_single : (c : ℕ) (cs : List ℕ) → c ≡ 39 → (leading_marks c 2 cs == 2) ≡ false → StringAt quotes.Single c cs
short_single c cs is other n e =
    let none : 0 + n ≡ n = omega arith in
    subst (λ k. IsString quotes.Single (c ∷ take k cs) × IsWhole (StringLiteral quotes.Single) (c ∷ take k cs) (drop k cs)) (sym none) (
      (take n cs, ap (λ x. x ∷ take n cs) is, enclosed_shape (Text quotes.Single) cs n e),
      λ r text rest. short_whole c n cs r other (text ∙ ap (λ x. x ∷ x ∷ []) (sym is)) (rest ∙ ap (λ x. x ∷ r) (sym is)),
    )

two_taken : (c n : ℕ) (cs : List ℕ) → (leading_marks c 2 cs == 2) ≡ true → c ∷ take (2 + n) cs ≡ c ∷ c ∷ c ∷ take n (drop 2 cs)
two_taken c n cs two =
    let count = eqb-true (leading_marks c 2 cs) 2 two in
    let front : take 2 cs ≡ c ∷ c ∷ [] = subst (λ k. take k cs ≡ replicate k c) count (marks_shape c 2 cs).0 in
    ap (λ x. c ∷ x) (take-add 2 n cs ∙ ap (λ x. x ++ take n (drop 2 cs)) front)

three_no_two : (c d e : ℕ) (b : List ℕ) (x y : ℕ) → c ∷ d ∷ e ∷ b ≡ x ∷ y ∷ [] → ⊥
three_no_two c d e b x y h = let size = ap length h in omega arith

long_double : (c : ℕ) (cs : List ℕ) → c ≡ 34 → (leading_marks c 2 cs == 2) ≡ true → StringAt quotes.LongDouble c cs
long_double c cs is two n e =
    let text = two_taken c n cs two in (
      (take n (drop 2 cs), text ∙ ap (λ x. x ∷ x ∷ x ∷ take n (drop 2 cs)) is, enclosed_shape (Text quotes.LongDouble) (drop 2 cs) n e),
      λ r short rest. three_no_two c c c (take n (drop 2 cs)) 34 34 (sym text ∙ short),
    )

long_single : (c : ℕ) (cs : List ℕ) → c ≡ 39 → (leading_marks c 2 cs == 2) ≡ true → StringAt quotes.LongSingle c cs
long_single c cs is two n e =
    let text = two_taken c n cs two in (
      (take n (drop 2 cs), text ∙ ap (λ x. x ∷ x ∷ x ∷ take n (drop 2 cs)) is, enclosed_shape (Text quotes.LongSingle) (drop 2 cs) n e),
      λ r short rest. three_no_two c c c (take n (drop 2 cs)) 39 39 (sym text ∙ short),
    )

abbrev StringFound : Bool → ℕ → List ℕ → Quotes → Type 0
StringFound m c cs q = IsFound m (string_lexeme q (enclosed_length (Text q) 0 (drop (more_quotes q) cs))) (c ∷ cs)

string_found : (m : Bool) (c : ℕ) (cs : List ℕ) → (c == 34 || c == 39) ≡ true → IsFound m (string_literal c cs) (c ∷ cs)
string_found m c cs either = elim (leading_marks c 2 cs == 2) as (λ b. (leading_marks c 2 cs == 2) ≡ b → StringFound m c cs (cond b (cond (c == 34) quotes.LongDouble quotes.LongSingle) (cond (c == 34) quotes.Double quotes.Single))) [
  | true ↦ λ two. elim (c == 34) as (λ b. (c == 34) ≡ b → (b || c == 39) ≡ true → StringFound m c cs (cond b quotes.LongDouble quotes.LongSingle)) [
    | true ↦ λ h o. by_quotes m quotes.LongDouble c cs (long_double c cs (eqb-true c 34 h) two)
    | false ↦ λ h o. by_quotes m quotes.LongSingle c cs (long_single c cs (eqb-true c 39 o) two)
  ] refl either
  | false ↦ λ two. elim (c == 34) as (λ b. (c == 34) ≡ b → (b || c == 39) ≡ true → StringFound m c cs (cond b quotes.Double quotes.Single)) [
    | true ↦ λ h o. by_quotes m quotes.Double c cs (short_double c cs (eqb-true c 34 h) two)
    | false ↦ λ h o. by_quotes m quotes.Single c cs (short_single c cs (eqb-true c 39 o) two)
  ] refl either
] refl

-- what `@` begins
tag_is_found : (c : ℕ) (cs : List ℕ) → c ≡ 64 → IsFound true (language_tag cs) (c ∷ cs)
tag_is_found c [] is = tt
tag_is_found c (d ∷ ds) is = elim (tag_length (d ∷ ds) == 0) as (λ b. (tag_length (d ∷ ds) == 0) ≡ b → IsFound true (cond b (Err NoToken) (Ok (LanguageTag, suc (tag_length (d ∷ ds))))) (c ∷ d ∷ ds)) [
  | true ↦ λ h. tt
  | false ↦ λ h. let some : 0 < tag_length (d ∷ ds) = grind (arith, nat_tests) in ((refl, subst (λ (x : ℕ). IsLanguageTag (x ∷ take (tag_length (d ∷ ds)) (d ∷ ds))) (sym is) (tag_shape (d ∷ ds) some)), tt, let most = tag_bound (d ∷ ds) in omega arith)
] refl

directive_whole : (c : ℕ) (cs : List ℕ) → c ≡ 64 → (s r : List ℕ) → drop (tag_length cs) cs ≡ s ++ r → IsLanguageTag ((c ∷ take (tag_length cs) cs) ++ s) → s ≡ []
directive_whole c cs is s r rest tag =
    let y = take (tag_length cs) cs in
    let most = tag_bound cs in
    let size : length y ≡ tag_length cs = length-take-le (tag_length cs) cs most in
    let whole : (y ++ s) ++ r ≡ cs = append_assoc y s r ∙ ap (λ x. y ++ x) (sym rest) ∙ take-append-drop (tag_length cs) cs in
    let more : length (y ++ s) ≤ tag_length ((y ++ s) ++ r) = tag_reached (y ++ s) r (subst (λ (x : ℕ). IsLanguageTag (x ∷ (y ++ s))) is tag) in
    let same : tag_length ((y ++ s) ++ r) ≡ tag_length cs = ap tag_length whole in
    let sum : length (y ++ s) ≡ length y + length s = length-append y s in
    empty s (omega arith)

directive_is_found : (c : ℕ) (cs : List ℕ) → c ≡ 64 → IsFound false (directive cs) (c ∷ cs)
directive_is_found c cs is =
    let n = tag_length cs in
    let most = tag_bound cs in
    elim (bytes_eq (take n cs) (codes "prefix")) as (λ b. bytes_eq (take n cs) (codes "prefix") ≡ b → IsFound false (lexeme_of (cond b (Some AtPrefix) (cond (bytes_eq (take n cs) (codes "base")) (Some AtBase) None)) (suc n) (begins_directive cs)) (c ∷ cs)) [
      | true ↦ λ h. ((refl, ap (λ x. x ∷ take n cs) is ∙ ap (λ x. 64 ∷ x) (word_same (take n cs) (codes "prefix") h)), directive_whole c cs is, omega arith)
      | false ↦ λ h. elim (bytes_eq (take n cs) (codes "base")) as (λ b. bytes_eq (take n cs) (codes "base") ≡ b → IsFound false (lexeme_of (cond b (Some AtBase) None) (suc n) (begins_directive cs)) (c ∷ cs)) [
        | true ↦ λ g. ((refl, ap (λ x. x ∷ take n cs) is ∙ ap (λ x. 64 ∷ x) (word_same (take n cs) (codes "base") g)), directive_whole c cs is, omega arith)
        | false ↦ λ g. no_lexeme false (c ∷ cs) (begins_directive cs)
      ] refl
    ] refl

at_is_found : (m : Bool) (c : ℕ) (cs : List ℕ) → c ≡ 64 → IsFound m (at_word m cs) (c ∷ cs)
at_is_found true c cs is = tag_is_found c cs is
at_is_found false c cs is = directive_is_found c cs is

-- labels and `^^`
label_by_length : (m : Bool) (c d e n : ℕ) (cs : List ℕ) → c ≡ 95 → d ≡ 58 → holds NameUnderscoreOrDigit e ≡ true → name_length Name (e ∷ cs) ≡ n → 0 < n → IsFound m (Ok (BlankNodeLabel, 2 + n)) (c ∷ d ∷ e ∷ cs)
label_by_length m c d e zero cs is colon first size some = absurd (omega arith)
label_by_length m c d e (suc n) cs is colon first size some =
    let count : 2 + suc n ≡ suc (suc (suc n)) = omega arith in
    let most = name_bound Name (e ∷ cs) in
    let begin : c ∷ d ∷ e ∷ take n cs ≡ 95 ∷ 58 ∷ e ∷ take n cs = ap (λ x. x ∷ d ∷ e ∷ take n cs) is ∙ ap (λ x. 95 ∷ x ∷ e ∷ take n cs) colon in
    subst (λ k. IsFound m (Ok (BlankNodeLabel, k)) (c ∷ d ∷ e ∷ cs)) (sym count) ((e, take n cs, begin, first, tail_shape Name e n cs size), tt, omega arith)

label_found : (m : Bool) (c : ℕ) (cs : List ℕ) → c ≡ 95 → IsFound m (label cs) (c ∷ cs)
label_found m c [] is = tt
label_found m c (d ∷ []) is = elim (d == 58) as (λ b. IsFound m (cond b (Err UnexpectedEnd) (Err NoToken)) (c ∷ d ∷ [])) [ true ↦ tt | false ↦ tt ]
label_found m c (d ∷ e ∷ cs) is = elim (d == 58) as (λ b. (d == 58) ≡ b → IsFound m (cond b (cond (holds NameUnderscoreOrDigit e) (Ok (BlankNodeLabel, 2 + name_length Name (e ∷ cs))) (Err NoToken)) (Err NoToken)) (c ∷ d ∷ e ∷ cs)) [
  | true ↦ λ colon. elim (holds NameUnderscoreOrDigit e) as (λ b. holds NameUnderscoreOrDigit e ≡ b → IsFound m (cond b (Ok (BlankNodeLabel, 2 + name_length Name (e ∷ cs))) (Err NoToken)) (c ∷ d ∷ e ∷ cs)) [
    | true ↦ λ first. let one = name_over (e ∷ []) cs (label_is_name e first, tt) in label_by_length m c d e (name_length Name (e ∷ cs)) cs is (eqb-true d 58 colon) first refl (omega arith)
    | false ↦ λ first. tt
  ] refl
  | false ↦ λ colon. tt
] refl

carets_found : (m : Bool) (c : ℕ) (cs : List ℕ) → c ≡ 94 → IsFound m (carets cs) (c ∷ cs)
carets_found m c [] is = tt
carets_found m c (d ∷ cs) is = elim (d == 94) as (λ b. (d == 94) ≡ b → IsFound m (cond b (Ok (Carets, 2)) (Err NoToken)) (c ∷ d ∷ cs)) [
  | true ↦ λ h. (ap (λ x. x ∷ d ∷ []) is ∙ ap (λ x. 94 ∷ x ∷ []) (eqb-true d 94 h), tt, omega arith)
  | false ↦ λ h. tt
] refl

-- numbers and the dot
number_token : (m : Bool) (k : TokenKind) (n : ℕ) (cs : List ℕ) → n ≤ length cs → IsNumber k (take n cs) → IsFound m (Ok (k, n)) cs
number_token m Integer n cs most h = (h, tt, most)
number_token m Decimal n cs most h = (h, tt, most)
number_token m Double n cs most h = (h, tt, most)
number_token m _ n cs most h = absurd h

no_number_found : (m : Bool) (cs : List ℕ) → IsFound m (no_number cs) cs
no_number_found m [] = tt
no_number_found m (c ∷ cs) = elim (c == 46) as (λ b. (c == 46) ≡ b → IsFound m (cond b (Ok (Dot, 1)) (cond (is_cut_number cs) (Err UnexpectedEnd) (Err NoToken))) (c ∷ cs)) [
  | true ↦ λ h. (ap (λ x. x ∷ []) (eqb-true c 46 h), tt, omega arith)
  | false ↦ λ h. no_lexeme m (c ∷ cs) (is_cut_number cs)
] refl

number_is_found : (m : Bool) (r : Option (TokenKind × ℕ)) (cs : List ℕ) → Within r cs → GivesNumber r cs → IsFound m (number_found r cs) cs
number_is_found m None cs most h = no_number_found m cs
number_is_found m (Some p) cs most h = number_token m p.0 p.1 cs most h

-- names and words
by_kind : (m : Bool) (r : Option TokenKind) (n : ℕ) (cs : List ℕ) (is_cut : Bool) → n ≤ length cs → WordIs r (take n cs) → begins_with Name (drop n cs) ≡ false → IsFound m (lexeme_of r n is_cut) cs
by_kind m None n cs is_cut most is ends = no_lexeme m cs is_cut
by_kind m (Some k) n cs is_cut most is ends = (is.0 m, is.1 (drop n cs) ends, most)

word_found : (m : Bool) (cs : List ℕ) → IsFound m (word cs) cs
word_found m cs = by_kind m (word_kind (take (run_length Name cs) cs)) (run_length Name cs) cs (run_length NameOrDot cs == length cs) (run_bound Name cs) (word_is (take (run_length Name cs) cs)) (run_ends cs)

colon_taken : (cs ds : List ℕ) (p d n : ℕ) → drop p cs ≡ d ∷ ds → take (p + suc n) cs ≡ take p cs ++ d ∷ take n ds
colon_taken cs ds p d n rest = take-add p (suc n) cs ∙ ap (λ x. take p cs ++ take (suc n) x) rest

colon_length : (cs ds : List ℕ) (p d : ℕ) → drop p cs ≡ d ∷ ds → length cs ≡ p + suc (length ds)
colon_length cs ds p d rest = let size : length cs - p ≡ suc (length ds) = sym (length-drop p cs) ∙ ap length rest in omega arith

reaches_colon : (cs ds : List ℕ) (p d : ℕ) → drop p cs ≡ d ∷ ds → p + 1 ≤ length cs
reaches_colon cs ds p d rest = let whole = colon_length cs ds p d rest in omega arith

named_found : (m : Bool) (cs ds : List ℕ) (p d n : ℕ) → (take p cs ≡ []) ⊎ IsPrefix (take p cs) → drop p cs ≡ d ∷ ds → d ≡ 58 → local_length ds ≡ n → IsFound m (Ok (cond (n == 0) PrefixName PrefixedName, p + 1 + n)) cs
named_found m cs ds p d zero prefix rest colon size =
    let most : p + 1 ≤ length cs = reaches_colon cs ds p d rest in
    let count : p + 1 + 0 ≡ p + suc 0 = omega arith in
    let text : take (p + 1 + 0) cs ≡ take p cs ++ 58 ∷ [] = ap (λ k. take k cs) count ∙ colon_taken cs ds p d 0 rest ∙ ap (λ x. take p cs ++ x ∷ []) colon in
    ((take p cs, text, prefix), tt, omega arith)
named_found m cs ds p d (suc n) prefix rest colon size =
    let whole : length cs ≡ p + suc (length ds) = colon_length cs ds p d rest in
    let most = local_bound ds in
    let count : p + 1 + suc n ≡ p + suc (suc n) = omega arith in
    let some : (suc n == 0) ≡ false = grind (arith, nat_tests) in
    let text : take (p + 1 + suc n) cs ≡ (take p cs ++ 58 ∷ []) ++ take (suc n) ds =
    ap (λ k. take k cs) count ∙ colon_taken cs ds p d (suc n) rest ∙ ap (λ x. take p cs ++ x ∷ take (suc n) ds) colon ∙ sym (append_assoc (take p cs) (58 ∷ []) (take (suc n) ds)) in
    let local : IsLocal (take (suc n) ds) = subst (λ k. IsLocal (take k ds)) size (local_shape ds n size) in
    subst (λ b. IsFound m (Ok (cond b PrefixName PrefixedName, p + 1 + suc n)) cs) (sym some)
    ((take p cs ++ 58 ∷ [], take (suc n) ds, text, (take p cs, refl, prefix), local), tt, omega arith)

name_found : (m : Bool) (cs r : List ℕ) (p : ℕ) → (take p cs ≡ []) ⊎ IsPrefix (take p cs) → drop p cs ≡ r → IsFound m (name_at cs p r) cs
name_found m cs [] p prefix rest = word_found m cs
name_found m cs (d ∷ ds) p prefix rest = elim (d == 58) as (λ b. (d == 58) ≡ b → IsFound m (cond b (Ok (prefixed p ds)) (word cs)) cs) [
  | true ↦ λ h. named_found m cs ds p d (local_length ds) prefix rest (eqb-true d 58 h) refl
  | false ↦ λ h. word_found m cs
] refl

-- one character
abbrev OneCharacter : Option TokenKind → ℕ → Type 0
OneCharacter None c = Unit {0}
OneCharacter (Some k) c = (m : Bool) (u : List ℕ) → IsToken m k (c ∷ []) × IsWhole k (c ∷ []) u

single : (c n : ℕ) → (c == n) ≡ true → c ∷ [] ≡ n ∷ []
single c n h = ap (λ x. x ∷ []) (eqb-true c n h)

punctuation_found : (c : ℕ) → OneCharacter (punctuation c) c
punctuation_found c = elim (c == 59) as (λ b. (c == 59) ≡ b → OneCharacter (cond b (Some Semicolon) (cond (c == 44) (Some Comma) (cond (c == 91) (Some OpenBracket) (cond (c == 93) (Some CloseBracket) (cond (c == 40) (Some OpenParenthesis) (cond (c == 41) (Some CloseParenthesis) None)))))) c) [
  | true ↦ λ h m u. (single c 59 h, tt)
  | false ↦ λ h. elim (c == 44) as (λ b. (c == 44) ≡ b → OneCharacter (cond b (Some Comma) (cond (c == 91) (Some OpenBracket) (cond (c == 93) (Some CloseBracket) (cond (c == 40) (Some OpenParenthesis) (cond (c == 41) (Some CloseParenthesis) None))))) c) [
    | true ↦ λ h m u. (single c 44 h, tt)
    | false ↦ λ h. elim (c == 91) as (λ b. (c == 91) ≡ b → OneCharacter (cond b (Some OpenBracket) (cond (c == 93) (Some CloseBracket) (cond (c == 40) (Some OpenParenthesis) (cond (c == 41) (Some CloseParenthesis) None)))) c) [
      | true ↦ λ h m u. (single c 91 h, tt)
      | false ↦ λ h. elim (c == 93) as (λ b. (c == 93) ≡ b → OneCharacter (cond b (Some CloseBracket) (cond (c == 40) (Some OpenParenthesis) (cond (c == 41) (Some CloseParenthesis) None))) c) [
        | true ↦ λ h m u. (single c 93 h, tt)
        | false ↦ λ h. elim (c == 40) as (λ b. (c == 40) ≡ b → OneCharacter (cond b (Some OpenParenthesis) (cond (c == 41) (Some CloseParenthesis) None)) c) [
          | true ↦ λ h m u. (single c 40 h, tt)
          | false ↦ λ h. elim (c == 41) as (λ b. (c == 41) ≡ b → OneCharacter (cond b (Some CloseParenthesis) None) c) [
            | true ↦ λ h m u. (single c 41 h, tt)
            | false ↦ λ h. tt
          ] refl
        ] refl
      ] refl
    ] refl
  ] refl
] refl

plain_found_by : (m : Bool) (r : Option TokenKind) (c : ℕ) (cs : List ℕ) → OneCharacter r c → IsFound m (plain_found r c (c ∷ cs)) (c ∷ cs)
plain_found_by m (Some k) c cs h = let met = h m cs in (met.0, met.1, omega arith)
plain_found_by m None c cs h = elim (may_begin_number c) as (λ b. IsFound m (cond b (number_or_dot (c ∷ cs)) (cond (may_begin_name c) (name_or_word (c ∷ cs)) (Err NoToken))) (c ∷ cs)) [
  | true ↦ number_is_found m (number (c ∷ cs)) (c ∷ cs) (number_bound (c ∷ cs)) (number_shape (c ∷ cs))
  | false ↦ elim (may_begin_name c) as (λ b. IsFound m (cond b (name_or_word (c ∷ cs)) (Err NoToken)) (c ∷ cs)) [
    | true ↦ name_found m (c ∷ cs) (drop (prefix_length (c ∷ cs)) (c ∷ cs)) (prefix_length (c ∷ cs)) (prefix_shape (c ∷ cs)) refl
    | false ↦ tt
  ]
]

pub token_found : (m : Bool) (cs : List ℕ) → IsFound m (token_at m cs) cs
token_found m [] = tt
token_found m (c ∷ cs) = elim (c == 60) as (λ b. (c == 60) ≡ b → IsFound m (cond b (iri_ref cs) (cond (c == 34 || c == 39) (string_literal c cs) (cond (c == 64) (at_word m cs) (cond (c == 95) (label cs) (cond (c == 94) (carets cs) (plain_token c (c ∷ cs))))))) (c ∷ cs)) [
  | true ↦ λ h. iri_found m c cs (eqb-true c 60 h)
  | false ↦ λ h. elim (c == 34 || c == 39) as (λ b. (c == 34 || c == 39) ≡ b → IsFound m (cond b (string_literal c cs) (cond (c == 64) (at_word m cs) (cond (c == 95) (label cs) (cond (c == 94) (carets cs) (plain_token c (c ∷ cs)))))) (c ∷ cs)) [
    | true ↦ λ h. string_found m c cs h
    | false ↦ λ h. elim (c == 64) as (λ b. (c == 64) ≡ b → IsFound m (cond b (at_word m cs) (cond (c == 95) (label cs) (cond (c == 94) (carets cs) (plain_token c (c ∷ cs))))) (c ∷ cs)) [
      | true ↦ λ h. at_is_found m c cs (eqb-true c 64 h)
      | false ↦ λ h. elim (c == 95) as (λ b. (c == 95) ≡ b → IsFound m (cond b (label cs) (cond (c == 94) (carets cs) (plain_token c (c ∷ cs)))) (c ∷ cs)) [
        | true ↦ λ h. label_found m c cs (eqb-true c 95 h)
        | false ↦ λ h. elim (c == 94) as (λ b. (c == 94) ≡ b → IsFound m (cond b (carets cs) (plain_token c (c ∷ cs))) (c ∷ cs)) [
          | true ↦ λ h. carets_found m c cs (eqb-true c 94 h)
          | false ↦ λ h. plain_found_by m (punctuation c) c cs (punctuation_found c)
        ] refl
      ] refl
    ] refl
  ] refl
] refl
