-- What is found at the beginning of a text is the longest token that stands there, by the productions.
use Rattle.std.proofs.Common.{◌≡◌, ◌∙◌, ℕ, zero, suc, ◌+◌, ◌<◌, ◌≤◌, true, false, cond, ◌==◌, List, [], ◌∷◌, ◌++◌, length, take, drop, Ok, Err, refl, sym, ap, subst, arith}
use Rattle.std.proofs.lemmas.Bool.{eqb-true}
use Rattle.std.proofs.lemmas.Bool.Decides.{nat_tests}
use Rattle.std.proofs.lemmas.List.{length-take-le, take-append-drop}
use Rattle.std.proofs.Math.Seq.{take-append_seam, drop-append_seam}
use Rattle.rdf_lexical.specs.declared.refusal.RefusalKind.{RefusalKind}
use Rattle.rdf_lexical.specs.declared.refusal.RefusalKind.TheVariants.{NoToken, UnexpectedEnd}
use Rattle.rdf_lexical.specs.declared.classes.Class.TheVariants.{NameUnderscoreColonOrDigit, NameOrColon}
use Rattle.rdf_lexical.specs.declared.quoting.Quotes.TheVariants.{Double}
use Rattle.rdf_lexical.specs.declared.enclosing.Enclosed.{Enclosed}
use Rattle.rdf_lexical.specs.declared.enclosing.Enclosed.TheVariants.{Iri, Text}
use Rattle.rdf_lexical.specs.Refusals.{◌>>=◌}
use Rattle.rdf_lexical.specs.Characters.{is_line_end}
use Rattle.rdf_lexical.specs.Classes.{holds}
use Rattle.rdf_lexical.specs.Names.{name_length}
use Rattle.rdf_lexical.specs.Tags.{tag_length}
use Rattle.rdf_lexical.specs.Enclosed.{enclosed_length}
use Rattle.rdf_lexical.specs.Productions.{joined_texts, IsLabel, IsEnclosed, IsIriRef, IsString, IsLanguageTag}
use Rattle.rdf_lexical.proofs.Runs.{apart}
use Rattle.rdf_lexical.proofs.NameTails.{named, name_in, tail_shape, name_bound, label_has_colon}
use Rattle.rdf_lexical.proofs.TagTexts.{tag_reached, tag_some, tag_shape, tag_bound}
use Rattle.rdf_lexical.proofs.LowerTags.{tag_exact}
use Rattle.rdf_lexical.proofs.EnclosedTokens.{enclosed_met}
use Rattle.rdf_lexical.proofs.EnclosedTexts.{enclosed_shape, enclosed_bound}
use Rattle.ntriples_text.specs.declared.lexeme.TokenKind.{TokenKind}
use Rattle.ntriples_text.specs.declared.lexeme.TokenKind.TheVariants.{IriRef, StringLiteral, BlankNodeLabel, LanguageTag, Carets, Dot, LineEnd}
use Rattle.ntriples_text.specs.Tokens.{Lexeme, of_kind, label, language_tag, carets, mark, lexeme, token_of, token_at}
use Rattle.ntriples_text.specs.Productions.{IsToken, IsTokenAt, HasNoToken}

-- a token of at least so many characters, and of this kind
abbrev pub Reaches : TokenKind → Lexeme → ℕ → Type 0
Reaches k (Ok p) n = (n ≤ p.1) × (p.0 ≡ k)
Reaches k (Err f) n = ⊥

enclosed_token : (e : Enclosed) (b u : List ℕ) → IsEnclosed e b → enclosed_length e 0 (b ++ u) ≡ Ok (length b)
enclosed_token e b u (ps, f, all) = subst (λ (x : List ℕ). enclosed_length e 0 (x ++ u) ≡ Ok (length x)) (sym f) (enclosed_met e ps u all)

pub iri_met : (t u : List ℕ) → IsIriRef t → lexeme (t ++ u) ≡ Ok (IriRef, length t)
iri_met t u (b, e, body) = subst (λ (x : List ℕ). lexeme (x ++ u) ≡ Ok (IriRef, length x)) (sym e) (ap (of_kind IriRef) (enclosed_token Iri b u body))

pub string_met : (t u : List ℕ) → IsString Double t → lexeme (t ++ u) ≡ Ok (StringLiteral, length t)
string_met t u (b, e, body) = subst (λ (x : List ℕ). lexeme (x ++ u) ≡ Ok (StringLiteral, length x)) (sym e) (ap (of_kind StringLiteral) (enclosed_token (Text Double) b u body))

exactly : (k : TokenKind) (r : Lexeme) (n : ℕ) → r ≡ Ok (k, n) → Reaches k r n
exactly k r n e = subst (λ x. Reaches k x n) (sym e) (omega arith, refl)

label_reached : (t u : List ℕ) → IsLabel NameUnderscoreColonOrDigit NameOrColon t → Reaches BlankNodeLabel (lexeme (t ++ u)) (length t)
label_reached t u (c, v, e, first, tail) =
    let more = named NameOrColon c v u (label_has_colon c first) tail in
    let found : Lexeme = Ok (BlankNodeLabel, 2 + name_length NameOrColon (c ∷ (v ++ u))) in
    let value : lexeme (95 ∷ 58 ∷ c ∷ (v ++ u)) ≡ found = ap (λ b. cond b found (Err NoToken)) first in
    subst (λ (x : List ℕ). Reaches BlankNodeLabel (lexeme (x ++ u)) (length x)) (sym e) (subst (λ x. Reaches BlankNodeLabel x (suc (suc (suc (length v))))) (sym value) (omega arith, refl))

-- language tags
tag_value : (cs : List ℕ) → 0 < tag_length cs → language_tag cs ≡ Ok (LanguageTag, suc (tag_length cs))
tag_value [] some = absurd (omega arith)
tag_value (c ∷ cs) some =
    let n = tag_length (c ∷ cs) in
    let any : (n == 0) ≡ false = grind (arith, nat_tests) in
    ap (λ b. cond b (Err NoToken) (Ok (LanguageTag, suc n))) any

tag_begins : (t : List ℕ) → IsLanguageTag t → (y : List ℕ) × (t ≡ 64 ∷ y)
tag_begins t (l, ts, is, some, all) = (l ++ joined_texts ts, is)

tag_met : (t u : List ℕ) → IsLanguageTag t → Reaches LanguageTag (lexeme (t ++ u)) (length t)
tag_met t u h =
    let y = tag_begins t h in
    let tag : IsLanguageTag (64 ∷ y.0) = subst (λ (x : List ℕ). IsLanguageTag x) y.1 h in
    let some = tag_some y.0 tag in
    let more = tag_reached y.0 u tag in
    let value = tag_value (y.0 ++ u) (omega arith) in
    subst (λ (x : List ℕ). Reaches LanguageTag (lexeme (x ++ u)) (length x)) (sym y.1) (subst (λ x. Reaches LanguageTag x (suc (length y.0))) (sym value) (omega arith, refl))

pub tag_before_space : (y u : List ℕ) → IsLanguageTag (64 ∷ y) → lexeme (64 ∷ (y ++ 32 ∷ u)) ≡ Ok (LanguageTag, suc (length y))
tag_before_space y u h =
    let size = tag_exact y u h in
    let some = tag_some y h in
    tag_value (y ++ 32 ∷ u) (omega arith) ∙ ap (λ n. Ok (LanguageTag, suc n)) size

line_end_met : (c : ℕ) (u : List ℕ) → is_line_end c ≡ true → lexeme (c ∷ u) ≡ Ok (LineEnd, 1)
line_end_met c u h = rw (
  apart is_line_end c 60 h refl,
  apart is_line_end c 34 h refl,
  apart is_line_end c 95 h refl,
  apart is_line_end c 64 h refl,
  apart is_line_end c 94 h refl,
  apart is_line_end c 46 h refl,
  h,
) refl

pub reached : (k : TokenKind) (t u : List ℕ) → IsToken k t → Reaches k (lexeme (t ++ u)) (length t)
reached IriRef t u h = exactly IriRef (lexeme (t ++ u)) (length t) (iri_met t u h)
reached StringLiteral t u h = exactly StringLiteral (lexeme (t ++ u)) (length t) (string_met t u h)
reached BlankNodeLabel t u h = label_reached t u h
reached LanguageTag t u h = tag_met t u h
reached Carets t u h = subst (λ (x : List ℕ). Reaches Carets (lexeme (x ++ u)) (length x)) (sym h) (omega arith, refl)
reached Dot t u h = subst (λ (x : List ℕ). Reaches Dot (lexeme (x ++ u)) (length x)) (sym h) (omega arith, refl)
reached LineEnd t u (c, e, end) = subst (λ (x : List ℕ). Reaches LineEnd (lexeme (x ++ u)) (length x)) (sym e) (exactly LineEnd (lexeme (c ∷ u)) 1 (line_end_met c u end))

-- what is found is a token of its kind
abbrev pub IsFound : Lexeme → List ℕ → Type 0
IsFound (Ok p) cs = IsToken p.0 (take p.1 cs) × (p.1 ≤ length cs)
IsFound (Err f) cs = Unit {0}

iri_found : (c : ℕ) (cs : List ℕ) → c ≡ 60 → IsFound (of_kind IriRef (enclosed_length Iri 0 cs)) (c ∷ cs)
iri_found c cs is = elim (enclosed_length Iri 0 cs) as (λ r. enclosed_length Iri 0 cs ≡ r → IsFound (of_kind IriRef r) (c ∷ cs)) [
  | Ok n ↦ λ e. let most = enclosed_bound Iri cs n e in ((take n cs, ap (λ x. x ∷ take n cs) is, enclosed_shape Iri cs n e), omega (arith, most.0))
  | Err f ↦ λ e. tt
] refl

string_found : (c : ℕ) (cs : List ℕ) → c ≡ 34 → IsFound (of_kind StringLiteral (enclosed_length (Text Double) 0 cs)) (c ∷ cs)
string_found c cs is = elim (enclosed_length (Text Double) 0 cs) as (λ r. enclosed_length (Text Double) 0 cs ≡ r → IsFound (of_kind StringLiteral r) (c ∷ cs)) [
  | Ok n ↦ λ e. let most = enclosed_bound (Text Double) cs n e in ((take n cs, ap (λ x. x ∷ take n cs) is, enclosed_shape (Text Double) cs n e), omega (arith, most.0))
  | Err f ↦ λ e. tt
] refl

label_by_length : (c d e n : ℕ) (cs : List ℕ) → c ≡ 95 → d ≡ 58 → holds NameUnderscoreColonOrDigit e ≡ true → name_length NameOrColon (e ∷ cs) ≡ n → 0 < n → IsFound (Ok (BlankNodeLabel, 2 + n)) (c ∷ d ∷ e ∷ cs)
label_by_length c d e zero cs is colon first size some = absurd (omega arith)
label_by_length c d e (suc n) cs is colon first size some =
    let count : 2 + suc n ≡ suc (suc (suc n)) = omega arith in
    let most = name_bound NameOrColon (e ∷ cs) in
    let begin : c ∷ d ∷ e ∷ take n cs ≡ 95 ∷ 58 ∷ e ∷ take n cs = ap (λ x. x ∷ d ∷ e ∷ take n cs) is ∙ ap (λ x. 95 ∷ x ∷ e ∷ take n cs) colon in
    subst (λ k. IsFound (Ok (BlankNodeLabel, k)) (c ∷ d ∷ e ∷ cs)) (sym count) ((e, take n cs, begin, first, tail_shape NameOrColon e n cs size), omega arith)

label_found : (c : ℕ) (cs : List ℕ) → c ≡ 95 → IsFound (label cs) (c ∷ cs)
label_found c [] is = tt
label_found c (d ∷ []) is = elim (d == 58) as (λ b. IsFound (cond b (Err UnexpectedEnd) (Err NoToken)) (c ∷ d ∷ [])) [ true ↦ tt | false ↦ tt ]
label_found c (d ∷ e ∷ cs) is = elim (d == 58) as (λ b. (d == 58) ≡ b → IsFound (cond b (cond (holds NameUnderscoreColonOrDigit e) (Ok (BlankNodeLabel, 2 + name_length NameOrColon (e ∷ cs))) (Err NoToken)) (Err NoToken)) (c ∷ d ∷ e ∷ cs)) [
  | true ↦ λ colon. elim (holds NameUnderscoreColonOrDigit e) as (λ b. holds NameUnderscoreColonOrDigit e ≡ b → IsFound (cond b (Ok (BlankNodeLabel, 2 + name_length NameOrColon (e ∷ cs))) (Err NoToken)) (c ∷ d ∷ e ∷ cs)) [
    | true ↦ λ first. let one = name_in NameOrColon e cs (label_has_colon e first) in label_by_length c d e (name_length NameOrColon (e ∷ cs)) cs is (eqb-true d 58 colon) first refl (omega arith)
    | false ↦ λ first. tt
  ] refl
  | false ↦ λ colon. tt
] refl

tag_found : (c : ℕ) (cs : List ℕ) → c ≡ 64 → IsFound (language_tag cs) (c ∷ cs)
tag_found c [] is = tt
tag_found c (d ∷ ds) is = elim (tag_length (d ∷ ds) == 0) as (λ b. (tag_length (d ∷ ds) == 0) ≡ b → IsFound (cond b (Err NoToken) (Ok (LanguageTag, suc (tag_length (d ∷ ds))))) (c ∷ d ∷ ds)) [
  | true ↦ λ h. tt
  | false ↦ λ h. let some : 0 < tag_length (d ∷ ds) = grind (arith, nat_tests) in (subst (λ (x : ℕ). IsLanguageTag (x ∷ take (tag_length (d ∷ ds)) (d ∷ ds))) (sym is) (tag_shape (d ∷ ds) some), let most = tag_bound (d ∷ ds) in omega arith)
] refl

carets_found : (c : ℕ) (cs : List ℕ) → c ≡ 94 → IsFound (carets cs) (c ∷ cs)
carets_found c [] is = tt
carets_found c (d ∷ cs) is = elim (d == 94) as (λ b. (d == 94) ≡ b → IsFound (cond b (Ok (Carets, 2)) (Err NoToken)) (c ∷ d ∷ cs)) [
  | true ↦ λ h. (ap (λ x. x ∷ d ∷ []) is ∙ ap (λ x. 94 ∷ x ∷ []) (eqb-true d 94 h), omega arith)
  | false ↦ λ h. tt
] refl

mark_found : (c : ℕ) (cs : List ℕ) → IsFound (mark c cs) (c ∷ cs)
mark_found c cs = elim (c == 94) as (λ b. (c == 94) ≡ b → IsFound (cond b (carets cs) (cond (c == 46) (Ok (Dot, 1)) (cond (is_line_end c) (Ok (LineEnd, 1)) (Err NoToken)))) (c ∷ cs)) [
  | true ↦ λ h. carets_found c cs (eqb-true c 94 h)
  | false ↦ λ h. elim (c == 46) as (λ b. (c == 46) ≡ b → IsFound (cond b (Ok (Dot, 1)) (cond (is_line_end c) (Ok (LineEnd, 1)) (Err NoToken))) (c ∷ cs)) [
    | true ↦ λ h. (ap (λ x. x ∷ []) (eqb-true c 46 h), omega arith)
    | false ↦ λ h. elim (is_line_end c) as (λ b. is_line_end c ≡ b → IsFound (cond b (Ok (LineEnd, 1)) (Err NoToken)) (c ∷ cs)) [
      | true ↦ λ h. ((c, refl, h), omega arith)
      | false ↦ λ h. tt
    ] refl
  ] refl
] refl

pub token_found : (cs : List ℕ) → IsFound (lexeme cs) cs
token_found [] = tt
token_found (c ∷ cs) = elim (c == 60) as (λ b. (c == 60) ≡ b → IsFound (cond b (of_kind IriRef (enclosed_length Iri 0 cs)) (cond (c == 34) (of_kind StringLiteral (enclosed_length (Text Double) 0 cs)) (cond (c == 95) (label cs) (cond (c == 64) (language_tag cs) (mark c cs))))) (c ∷ cs)) [
  | true ↦ λ h. iri_found c cs (eqb-true c 60 h)
  | false ↦ λ h. elim (c == 34) as (λ b. (c == 34) ≡ b → IsFound (cond b (of_kind StringLiteral (enclosed_length (Text Double) 0 cs)) (cond (c == 95) (label cs) (cond (c == 64) (language_tag cs) (mark c cs)))) (c ∷ cs)) [
    | true ↦ λ h. string_found c cs (eqb-true c 34 h)
    | false ↦ λ h. elim (c == 95) as (λ b. (c == 95) ≡ b → IsFound (cond b (label cs) (cond (c == 64) (language_tag cs) (mark c cs))) (c ∷ cs)) [
      | true ↦ λ h. label_found c cs (eqb-true c 95 h)
      | false ↦ λ h. elim (c == 64) as (λ b. (c == 64) ≡ b → IsFound (cond b (language_tag cs) (mark c cs)) (c ∷ cs)) [
        | true ↦ λ h. tag_found c cs (eqb-true c 64 h)
        | false ↦ λ h. mark_found c cs
      ] refl
    ] refl
  ] refl
] refl

-- the token that is read, and what follows it
pub found_token : (k : TokenKind) (t rest : List ℕ) → 0 < length t → lexeme (t ++ rest) ≡ Ok (k, length t) → token_at (t ++ rest) ≡ Ok (token_of k t, rest)
found_token k [] rest some is = absurd (omega arith)
found_token k (c ∷ t) rest some is =
    let cs = c ∷ (t ++ rest) in
    ap (λ (r : Lexeme). r >>= λ p. Ok (token_of p.0 (take p.1 cs), drop p.1 cs)) is
    ∙ ap (λ x. Ok (token_of k x, drop (length (c ∷ t)) cs)) (take-append_seam (c ∷ t) rest)
    ∙ ap (λ x. Ok (token_of k (c ∷ t), x)) (drop-append_seam (c ∷ t) rest)

-- the laws
reached_at : (text : List ℕ) (r : Lexeme) (k : TokenKind) (t u : List ℕ) → lexeme text ≡ r → text ≡ t ++ u → IsToken k t → Reaches k r (length t)
reached_at text r k t u found split is = subst (λ x. Reaches k x (length t)) (ap lexeme (sym split) ∙ found) (reached k t u is)

pub longest_found : (text : List ℕ) (k : TokenKind) (n : ℕ) → lexeme text ≡ Ok (k, n) → IsTokenAt text k n
longest_found text k n found =
    let here : IsFound (Ok (k, n)) text = subst (λ r. IsFound r text) found (token_found text) in
    record { within = here.1; is = here.0; longest = λ other t u split is. (reached_at text (Ok (k, n)) other t u found split is).0 }

pub none_missed : (text : List ℕ) (f : RefusalKind) → lexeme text ≡ Err f → HasNoToken text
none_missed text f found k t u split is = reached_at text (Err f) k t u found split is

found_reaches : (text : List ℕ) (k : TokenKind) (n : ℕ) (r : Lexeme) → lexeme text ≡ r → IsTokenAt text k n → Reaches k r n
found_reaches text k n r found h =
    let size : length (take n text) ≡ n = length-take-le n text h.within in
    subst (λ x. Reaches k r x) size (reached_at text r k (take n text) (drop n text) found (sym (take-append-drop n text)) h.is)

two_found : (text : List ℕ) (k l : TokenKind) (n p : ℕ) (r : Lexeme) → lexeme text ≡ r → Reaches k r n → Reaches l r p → IsTokenAt text k n → IsTokenAt text l p → (k ≡ l) × (n ≡ p)
two_found text k l n p (Ok q) found (more, same) (further, alike) g h =
    let here = longest_found text q.0 q.1 found in
    let size : length (take q.1 text) ≡ q.1 = length-take-le q.1 text here.within in
    let split : text ≡ take q.1 text ++ drop q.1 text = sym (take-append-drop q.1 text) in
    let most : length (take q.1 text) ≤ n = g.longest q.0 (take q.1 text) (drop q.1 text) split here.is in
    let least : length (take q.1 text) ≤ p = h.longest q.0 (take q.1 text) (drop q.1 text) split here.is in
    (sym same ∙ alike, omega arith)
two_found text k l n p (Err f) found first second g h = absurd first

pub one_stands : (text : List ℕ) (k l : TokenKind) (n p : ℕ) → IsTokenAt text k n → IsTokenAt text l p → (k ≡ l) × (n ≡ p)
one_stands text k l n p g h = let r = lexeme text in two_found text k l n p r refl (found_reaches text k n r refl g) (found_reaches text l p r refl h) g h
