-- A fault other than the early end stays, whatever follows.
use Rattle.std.proofs.Common.{◌≡◌, ◌∙◌, nat_lt, ℕ, zero, suc, ◌+◌, ◌<◌, ◌≤◌, Bool, true, false, cond, ◌==◌, ◌&&◌, ◌||◌, List, [], ◌∷◌, ◌++◌, length, take, drop, Option, Some, None, Result, Ok, Err, refl, sym, ap, subst, arith, append_assoc, length-append, ◌⊎◌, inl, inr}
use Rattle.std.specs.Prelude.{codes, nat_eq, bytes_eq}
use Rattle.std.specs.List.{starts_with}
use Rattle.std.proofs.lemmas.Bool.{and_parts, eqb-true}
use Rattle.std.proofs.lemmas.Bool.Decides.{nat_tests}
use Rattle.std.proofs.lemmas.List.{length-take-le, take-append-drop}
use Rattle.std.proofs.lemmas.Slice.Eq.{bytes_eq-Decides}
use Rattle.std.proofs.Math.Seq.{take-append_seam}
use Rattle.rdf_lexical.specs.declared.refusal.RefusalKind.{RefusalKind}
use Rattle.rdf_lexical.specs.declared.refusal.RefusalKind.TheVariants.{NoToken, UnexpectedEnd}
use Rattle.rdf_lexical.specs.declared.classes.Class.TheVariants.{Sign, Digit, Letter, NameStart, NameUnderscoreOrDigit, Name, NameOrDot}
use Rattle.rdf_lexical.specs.declared.quoting.Quotes.{Quotes}
use Rattle.rdf_lexical.specs.declared.quoting.Quotes.TheVariants as quotes
use Rattle.rdf_lexical.specs.declared.enclosing.Enclosed.TheVariants.{Iri, Text}
use Rattle.rdf_lexical.specs.Classes.{holds, begins_with, run_length}
use Rattle.rdf_lexical.specs.Names.{with_dot, name_length}
use Rattle.rdf_lexical.specs.Tags.{tag_length}
use Rattle.rdf_lexical.specs.Enclosed.{leading_marks, enclosed_length}
use Rattle.rdf_lexical.specs.Productions.{IsLanguageTag}
use Rattle.rdf_lexical.proofs.Runs.{run_bound}
use Rattle.rdf_lexical.proofs.NameTails.{dotted_bound}
use Rattle.rdf_lexical.proofs.TagTexts.{tag_reached, tag_shape, tag_bound, no_tag, some_tag}
use Rattle.rdf_lexical.proofs.EnclosedTexts.{marks_bound}
use Rattle.rdf_lexical.proofs.EnclosedTokens.{no_marks}
use Rattle.rdf_lexical.proofs.Cut.{Other, take_front, drop_front, run_same, marks_stable, enclosed_stable}
use Rattle.turtle_lex.specs.declared.token.TokenKind.{TokenKind}
use Rattle.turtle_lex.specs.declared.token.TokenKind.TheVariants.{BlankNodeLabel, LanguageTag, Integer, Decimal, Double, StringLiteral, Dot, AtPrefix, AtBase}
use Rattle.turtle_lex.specs.Names.{prefix_length}
use Rattle.turtle_lex.specs.Numbers.{point_length, exponent_length, number_length, with_length, unsigned_number, after_sign, number}
use Rattle.turtle_lex.specs.Words.{Lexeme, word_kind, language_tag, directive_kind, begins_directive, lexeme_of, directive, at_word, word}
use Rattle.turtle_lex.specs.Enclosed.{iri_lexeme, iri_ref, more_quotes, quotes_at, string_lexeme, string_literal}
use Rattle.turtle_lex.specs.Tokens.{label_after_colon, label, carets, prefixed, name_at, name_or_word, is_cut_number, number_found, number_or_dot, punctuation, may_begin_number, may_begin_name, plain_found, plain_token, token_at}
use Rattle.turtle_lex.proofs.Dispatch.{refuted}

early : (f : RefusalKind) (r : Lexeme) → r ≡ Err UnexpectedEnd → r ≡ Err f → f ≡ UnexpectedEnd
early f r is h = let same : (let a : Lexeme = Err UnexpectedEnd in a) ≡ Err f = sym is ∙ h in cc

-- IRIs and strings
pub iri_err : (r : Result ℕ RefusalKind) (f : RefusalKind) → iri_lexeme r ≡ Err f → r ≡ Err f
iri_err (Ok n) f h = cc
iri_err (Err g) f h = let same : g ≡ f = cc in ap (λ x. Err x) same

pub string_err : (q : Quotes) (r : Result ℕ RefusalKind) (f : RefusalKind) → string_lexeme q r ≡ Err f → r ≡ Err f
string_err q (Ok n) f h = cc
string_err q (Err g) f h = let same : g ≡ f = cc in ap (λ x. Err x) same

abbrev Settled : ℕ → List ℕ → Type 0
Settled c cs = (leading_marks c 2 cs ≡ 2) ⊎ (0 < length (drop (leading_marks c 2 cs) cs))

marks_two : (c d e : ℕ) (r : List ℕ) → Settled c (d ∷ e ∷ r)
marks_two c d e r = elim (d == c) as (λ b. let n = cond b (suc (cond (e == c) (suc (leading_marks c 0 r)) 0)) 0 in (n ≡ 2) ⊎ (0 < length (drop n (d ∷ e ∷ r)))) [
  | true ↦ elim (e == c) as (λ b. let n = suc (cond b (suc (leading_marks c 0 r)) 0) in (n ≡ 2) ⊎ (0 < length (drop n (d ∷ e ∷ r)))) [
    | true ↦ inl (ap (λ k. suc (suc k)) (no_marks c r))
    | false ↦ inr (omega arith)
  ]
  | false ↦ inr (omega arith)
]

-- two quotes alone are a string
two_alone : (c d : ℕ) (f : RefusalKind) → (c == 34 || c == 39) ≡ true → (d == c) ≡ true → string_literal c (d ∷ []) ≡ Err f → ⊥
two_alone c d f either same h = elim (c == 34) as (λ b. (c == 34) ≡ b → (b || c == 39) ≡ true → ⊥) [
  | true ↦ λ q o.
      let quote = eqb-true c 34 q in
      let other : d ≡ 34 = eqb-true d c same ∙ quote in
      let value : string_literal c (d ∷ []) ≡ string_literal 34 (34 ∷ []) = ap (λ x. string_literal x (d ∷ [])) quote ∙ ap (λ x. string_literal 34 (x ∷ [])) other in
      let found : string_literal 34 (34 ∷ []) ≡ Ok (StringLiteral quotes.Double, 2) = refl in
      let both : (let a : Lexeme = Ok (StringLiteral quotes.Double, 2) in a) ≡ Err f = sym found ∙ sym value ∙ h in
      cc
  | false ↦ λ q o.
      let quote = eqb-true c 39 o in
      let other : d ≡ 39 = eqb-true d c same ∙ quote in
      let value : string_literal c (d ∷ []) ≡ string_literal 39 (39 ∷ []) = ap (λ x. string_literal x (d ∷ [])) quote ∙ ap (λ x. string_literal 39 (x ∷ [])) other in
      let found : string_literal 39 (39 ∷ []) ≡ Ok (StringLiteral quotes.Single, 2) = refl in
      let both : (let a : Lexeme = Ok (StringLiteral quotes.Single, 2) in a) ≡ Err f = sym found ∙ sym value ∙ h in
      cc
] refl either

one_alone : (c : ℕ) → string_literal c [] ≡ Err UnexpectedEnd
one_alone c = elim (c == 34) as (λ b. let q = cond b quotes.Double quotes.Single in string_lexeme q (enclosed_length (Text q) 0 (drop (more_quotes q) [])) ≡ Err UnexpectedEnd) [ true ↦ refl | false ↦ refl ]

more_within : (c : ℕ) (cs : List ℕ) → more_quotes (quotes_at c cs) ≤ length cs
more_within c cs = let most = marks_bound c 2 cs in elim (leading_marks c 2 cs == 2) as (λ b. (leading_marks c 2 cs == 2) ≡ b → more_quotes (cond b (cond (c == 34) quotes.LongDouble quotes.LongSingle) (cond (c == 34) quotes.Double quotes.Single)) ≤ length cs) [
  | true ↦ λ q. let two = eqb-true (leading_marks c 2 cs) 2 q in elim (c == 34) as (λ b. more_quotes (cond b quotes.LongDouble quotes.LongSingle) ≤ length cs) [ true ↦ omega arith | false ↦ omega arith ]
  | false ↦ λ q. elim (c == 34) as (λ b. more_quotes (cond b quotes.Double quotes.Single) ≤ length cs) [ true ↦ omega arith | false ↦ omega arith ]
] refl

string_on : (c : ℕ) (cs more : List ℕ) (f : RefusalKind) → Settled c cs → Other f → string_literal c cs ≡ Err f → string_literal c (cs ++ more) ≡ Err f
string_on c cs more f settled other h =
    let q = quotes_at c cs in
    let xs = cs ++ more in
    let same : quotes_at c xs ≡ q = ap (λ n. cond (n == 2) (cond (c == 34) quotes.LongDouble quotes.LongSingle) (cond (c == 34) quotes.Double quotes.Single)) (marks_stable c 2 cs more settled) in
    ap (λ p. string_lexeme p (enclosed_length (Text p) 0 (drop (more_quotes p) xs))) same
    ∙ ap (λ x. string_lexeme q (enclosed_length (Text q) 0 x)) (drop_front (more_quotes q) cs more (more_within c cs))
    ∙ ap (string_lexeme q) (enclosed_stable (Text q) 0 (drop (more_quotes q) cs) more f other (string_err q (enclosed_length (Text q) 0 (drop (more_quotes q) cs)) f h))

string_stable : (c : ℕ) (cs more : List ℕ) (f : RefusalKind) → (c == 34 || c == 39) ≡ true → Other f → string_literal c cs ≡ Err f → string_literal c (cs ++ more) ≡ Err f
string_stable c [] more f either other h = absurd (other (early f (string_literal c []) (one_alone c) h))
string_stable c (d ∷ []) more f either other h = elim (d == c) as (λ b. (d == c) ≡ b → string_literal c ((d ∷ []) ++ more) ≡ Err f) [
  | true ↦ λ q. absurd (two_alone c d f either q h)
  | false ↦ λ q.
      let none : leading_marks c 2 (d ∷ []) ≡ 0 = ap (λ b. cond b (suc (leading_marks c 1 [])) 0) q in
      string_on c (d ∷ []) more f (inr (subst (λ n. 0 < length (drop n (d ∷ []))) (sym none) (omega arith))) other h
] refl
string_stable c (d ∷ e ∷ r) more f either other h = string_on c (d ∷ e ∷ r) more f (marks_two c d e r) other h

-- labels and `^^`
abbrev pub found_label : Bool → ℕ → Lexeme
found_label b n = cond b (Ok (BlankNodeLabel, n)) (Err NoToken)

after_colon_stable : (cs more : List ℕ) (f : RefusalKind) → Other f → label_after_colon cs ≡ Err f → label_after_colon (cs ++ more) ≡ Err f
after_colon_stable [] more f other h = absurd (other (early f (label_after_colon []) refl h))
after_colon_stable (c ∷ cs) more f other h = elim (holds NameUnderscoreOrDigit c) as (λ b. found_label b (2 + name_length Name (c ∷ cs)) ≡ Err f → found_label b (2 + name_length Name (c ∷ (cs ++ more))) ≡ Err f) [
  | true ↦ λ k. cc
  | false ↦ λ k. k
] h

label_stable : (cs more : List ℕ) (f : RefusalKind) → Other f → label cs ≡ Err f → label (cs ++ more) ≡ Err f
label_stable [] more f other h = absurd (other (early f (label []) refl h))
label_stable (c ∷ cs) more f other h = elim (c == 58) as (λ b. cond b (label_after_colon cs) (Err NoToken) ≡ Err f → cond b (label_after_colon (cs ++ more)) (Err NoToken) ≡ Err f) [
  | true ↦ λ k. after_colon_stable cs more f other k
  | false ↦ λ k. k
] h

carets_stable : (cs more : List ℕ) (f : RefusalKind) → Other f → carets cs ≡ Err f → carets (cs ++ more) ≡ Err f
carets_stable [] more f other h = absurd (other (early f (carets []) refl h))
carets_stable (c ∷ cs) more f other h = h

-- what `@` begins
tag_stable : (cs more : List ℕ) (f : RefusalKind) → Other f → language_tag cs ≡ Err f → language_tag (cs ++ more) ≡ Err f
tag_stable [] more f other h = absurd (other (early f (language_tag []) refl h))
tag_stable (c ∷ cs) more f other h = elim (holds Letter c) as (λ b. holds Letter c ≡ b → language_tag (c ∷ (cs ++ more)) ≡ Err f) [
  | true ↦ λ q. let found : language_tag (c ∷ cs) ≡ Ok (LanguageTag, suc (tag_length (c ∷ cs))) = ap (λ b. cond b (Err NoToken) (Ok (LanguageTag, suc (tag_length (c ∷ cs))))) (some_tag c cs q) in cc
  | false ↦ λ q.
      let here : language_tag (c ∷ cs) ≡ Err NoToken = ap (λ b. cond b (Err NoToken) (Ok (LanguageTag, suc (tag_length (c ∷ cs))))) (no_tag c cs q) in
      let there : language_tag (c ∷ (cs ++ more)) ≡ Err NoToken = ap (λ b. cond b (Err NoToken) (Ok (LanguageTag, suc (tag_length (c ∷ (cs ++ more)))))) (no_tag c (cs ++ more) q) in
      there ∙ sym here ∙ h
] refl

abbrev pub IsDirective : List ℕ → Type 0
IsDirective w = (w ≡ codes "prefix") ⊎ (w ≡ codes "base")

some_directive : (w : List ℕ) → IsDirective w → (k : TokenKind) × (directive_kind w ≡ Some k)
some_directive w (inl e) = (AtPrefix, ap directive_kind e)
some_directive w (inr e) = (AtBase, ap directive_kind e)

is_directive : (w : List ℕ) (k : TokenKind) → directive_kind w ≡ Some k → IsDirective w
is_directive w k h = elim (bytes_eq w (codes "prefix")) as (λ b. bytes_eq w (codes "prefix") ≡ b → cond b (Some AtPrefix) (cond (bytes_eq w (codes "base")) (Some AtBase) None) ≡ Some k → IsDirective w) [
  | true ↦ λ q g. inl ((bytes_eq-Decides w (codes "prefix")).0 q)
  | false ↦ λ q g. elim (bytes_eq w (codes "base")) as (λ b. bytes_eq w (codes "base") ≡ b → cond b (Some AtBase) None ≡ Some k → IsDirective w) [
    | true ↦ λ p j. inr ((bytes_eq-Decides w (codes "base")).0 p)
    | false ↦ λ p j. cc
  ] refl g
] refl h

starts_if : (w cs r : List ℕ) → w ≡ cs ++ r → starts_with nat_eq w cs ≡ true
starts_if w cs r e =
    let front : take (length cs) w ≡ cs = ap (take (length cs)) e ∙ take-append_seam cs r in
    (bytes_eq-Decides cs (take (length cs) w)).1 (sym front)

if_starts : (w cs : List ℕ) → starts_with nat_eq w cs ≡ true → w ≡ cs ++ drop (length cs) w
if_starts w cs h =
    let front : cs ≡ take (length cs) w = (bytes_eq-Decides cs (take (length cs) w)).0 h in
    sym (take-append-drop (length cs) w) ∙ ap (λ x. x ++ drop (length cs) w) (sym front)

or_left : (a b : Bool) → a ≡ true → (a || b) ≡ true
or_left true b h = refl
or_left false b h = cc

or_right : (a b : Bool) → b ≡ true → (a || b) ≡ true
or_right true b h = refl
or_right false b h = h

begins_if : (w cs r : List ℕ) → IsDirective w → w ≡ cs ++ r → begins_directive cs ≡ true
begins_if w cs r (inl is) e = or_left (starts_with nat_eq (codes "prefix") cs) (starts_with nat_eq (codes "base") cs) (starts_if (codes "prefix") cs r (sym is ∙ e))
begins_if w cs r (inr is) e = or_right (starts_with nat_eq (codes "prefix") cs) (starts_with nat_eq (codes "base") cs) (starts_if (codes "base") cs r (sym is ∙ e))

pub if_begins : (cs : List ℕ) → begins_directive cs ≡ true → (w : List ℕ) × (r : List ℕ) × IsDirective w × (w ≡ cs ++ r)
if_begins cs h = elim (starts_with nat_eq (codes "prefix") cs) as (λ b. starts_with nat_eq (codes "prefix") cs ≡ b → (b || starts_with nat_eq (codes "base") cs) ≡ true → (w : List ℕ) × (r : List ℕ) × IsDirective w × (w ≡ cs ++ r)) [
  | true ↦ λ q g. (codes "prefix", drop (length cs) (codes "prefix"), inl refl, if_starts (codes "prefix") cs q)
  | false ↦ λ q g. (codes "base", drop (length cs) (codes "base"), inr refl, if_starts (codes "base") cs g)
] refl h

-- one of two beginnings of a text is the beginning of the other
two_fronts : (a b c d : List ℕ) → a ++ b ≡ c ++ d → ((r : List ℕ) × (c ≡ a ++ r)) ⊎ ((r : List ℕ) × (a ≡ c ++ r))
two_fronts [] b c d e = inl (c, refl)
two_fronts (x ∷ a) b [] d e = inr (x ∷ a, refl)
two_fronts (x ∷ a) b (y ∷ c) d e = let first : x ≡ y = cc in let rest : a ++ b ≡ c ++ d = cc in both_longer x y a c first (two_fronts a b c d rest)
  where
    both_longer : (x y : ℕ) (a c : List ℕ) → x ≡ y → ((r : List ℕ) × (c ≡ a ++ r)) ⊎ ((r : List ℕ) × (a ≡ c ++ r)) → ((r : List ℕ) × (y ∷ c ≡ x ∷ (a ++ r))) ⊎ ((r : List ℕ) × (x ∷ a ≡ y ∷ (c ++ r)))
    both_longer x y a c same (inl (r, e)) = inl (r, ap (λ z. z ∷ c) (sym same) ∙ ap (λ z. x ∷ z) e)
    both_longer x y a c same (inr (r, e)) = inr (r, ap (λ z. z ∷ a) same ∙ ap (λ z. y ∷ z) e)

tag_more : (cs more : List ℕ) → tag_length cs ≤ tag_length (cs ++ more)
tag_more cs more =
    let n = tag_length cs in
    elim (n == 0) as (λ b. (n == 0) ≡ b → n ≤ tag_length (cs ++ more)) [
      | true ↦ λ q. let none = eqb-true n 0 q in omega (arith, none)
      | false ↦ λ q.
          let some : 0 < n = grind (arith, nat_tests) in
          let reach = tag_reached (take n cs) (drop n cs ++ more) (tag_shape cs some) in
          let size : length (take n cs) ≡ n = length-take-le n cs (tag_bound cs) in
          let whole : take n cs ++ (drop n cs ++ more) ≡ cs ++ more = sym (append_assoc (take n cs) (drop n cs) more) ∙ ap (λ x. x ++ more) (take-append-drop n cs) in
          let value : tag_length (take n cs ++ (drop n cs ++ more)) ≡ tag_length (cs ++ more) = ap tag_length whole in
          omega (arith, reach, size, value)
    ] refl

-- where `@` begins no directive, and the text's end doesn't come too early
pub record NoDirective (cs : List ℕ) (f : RefusalKind) : Type 0 where
  pub other : IsDirective (take (tag_length cs) cs) → ⊥
  pub begins : begins_directive cs ≡ false
  pub fault : (let a : Lexeme = Err NoToken in a) ≡ Err f

no_directive : (cs : List ℕ) (f : RefusalKind) → Other f → directive cs ≡ Err f → NoDirective cs f
no_directive cs f other h =
    let n = tag_length cs in
    elim (directive_kind (take n cs)) as (λ o. directive_kind (take n cs) ≡ o → lexeme_of o (suc n) (begins_directive cs) ≡ Err f → NoDirective cs f) [
      | Some k ↦ λ e g. absurd (let bad : (let a : Lexeme = Ok (k, suc n) in a) ≡ Err f = g in cc)
      | None ↦ λ e g. elim (begins_directive cs) as (λ b. begins_directive cs ≡ b → lexeme_of None (suc n) b ≡ Err f → NoDirective cs f) [
        | true ↦ λ q j. absurd (other (early f (Err UnexpectedEnd) refl j))
        | false ↦ λ q j. record {
          other = λ w. let some = some_directive (take n cs) w in let both : None ≡ Some some.0 = sym e ∙ some.1 in cc;
          begins = q;
          fault = j;
        }
      ] refl g
    ] refl h

some_word : (w : List ℕ) → IsDirective w → 0 < length w
some_word w (inl e) = let size = ap length e in omega arith
some_word w (inr e) = let size = ap length e in omega arith

no_longer : (cs more : List ℕ) (f : RefusalKind) → NoDirective cs f → IsDirective (take (tag_length (cs ++ more)) (cs ++ more)) → ⊥
no_longer cs more f none word =
    let xs = cs ++ more in
    let n = tag_length xs in
    let w = take n xs in
    split w (drop n xs) (length-take-le n xs (tag_bound xs)) word (two_fronts cs more w (drop n xs) (sym (take-append-drop n xs)))
  where
    split : (w z : List ℕ) → length w ≡ tag_length (cs ++ more) → IsDirective w → ((r : List ℕ) × (w ≡ cs ++ r)) ⊎ ((r : List ℕ) × (cs ≡ w ++ r)) → ⊥
    split w z size word (inl (r, e)) = let yes = begins_if w cs r word e in let both : true ≡ false = sym yes ∙ none.begins in cc
    split w z size word (inr (r, e)) =
        let some = some_word w word in
        let low = tag_reached w r (word_tag w word) in
        let same : tag_length (w ++ r) ≡ tag_length cs = ap tag_length (sym e) in
        let high = tag_more cs more in
        let n : tag_length cs ≡ length w = omega (arith, low, same, high, size) in
        let front : take (tag_length cs) cs ≡ w = ap (λ k. take k cs) n ∙ ap (take (length w)) e ∙ take-append_seam w r in
        none.other (subst (λ (x : List ℕ). IsDirective x) (sym front) word)
      where
        word_tag : (w : List ℕ) → IsDirective w → IsLanguageTag (64 ∷ w)
        word_tag w (inl e) = subst (λ (x : List ℕ). IsLanguageTag (64 ∷ x)) (sym e) (codes "prefix", [], refl, (refl, (refl, (refl, (refl, (refl, (refl, (refl, tt))))))), tt)
        word_tag w (inr e) = subst (λ (x : List ℕ). IsLanguageTag (64 ∷ x)) (sym e) (codes "base", [], refl, (refl, (refl, (refl, (refl, (refl, tt))))), tt)

directive_stable : (cs more : List ℕ) (f : RefusalKind) → Other f → directive cs ≡ Err f → directive (cs ++ more) ≡ Err f
directive_stable cs more f other h =
    let none = no_directive cs f other h in
    let xs = cs ++ more in
    let n = tag_length xs in
    let kind : directive_kind (take n xs) ≡ None = elim (directive_kind (take n xs)) as (λ o. directive_kind (take n xs) ≡ o → o ≡ None) [
      | None ↦ λ e. refl
      | Some k ↦ λ e. absurd (no_longer cs more f none (is_directive (take n xs) k e))
    ] refl in
    let begins : begins_directive xs ≡ false = refuted (begins_directive xs) (λ b.
    let w = if_begins xs b in
    let yes = begins_if w.0 cs (more ++ w.1) w.2 (w.3 ∙ append_assoc cs more w.1) in
    let both : true ≡ false = sym yes ∙ none.begins in cc) in
    ap (λ o. lexeme_of o (suc n) (begins_directive xs)) kind ∙ ap (lexeme_of None (suc n)) begins ∙ none.fault

at_stable : (m : Bool) (cs more : List ℕ) (f : RefusalKind) → Other f → at_word m cs ≡ Err f → at_word m (cs ++ more) ≡ Err f
at_stable true cs more f other h = tag_stable cs more f other h
at_stable false cs more f other h = directive_stable cs more f other h

-- names and words
run_within : (cs : List ℕ) → run_length Name cs ≤ run_length NameOrDot cs
run_within [] = omega arith
run_within (c ∷ cs) = let more = run_within cs in elim (holds Name c) as (λ b. cond b (suc (run_length Name cs)) 0 ≤ cond (b || c == 46) (suc (run_length NameOrDot cs)) 0) [ true ↦ omega arith | false ↦ omega arith ]

name_within : (cs : List ℕ) → name_length Name cs ≤ run_length NameOrDot cs
name_within [] = omega arith
name_within (c ∷ cs) = let more = name_within cs in elim (holds Name c) as (λ b. cond b (suc (name_length Name cs)) (cond (c == 46) (with_dot (name_length Name cs)) 0) ≤ cond (b || c == 46) (suc (run_length NameOrDot cs)) 0) [
  | true ↦ omega arith
  | false ↦ elim (c == 46) as (λ b. cond b (with_dot (name_length Name cs)) 0 ≤ cond b (suc (run_length NameOrDot cs)) 0) [ true ↦ dotted_bound (name_length Name cs) (run_length NameOrDot cs) more | false ↦ omega arith ]
]

name_same : (cs more : List ℕ) → run_length NameOrDot cs < length cs → name_length Name (cs ++ more) ≡ name_length Name cs
name_same [] more h = absurd (omega arith)
name_same (c ∷ cs) more h =
    let xs = cs ++ more in
    elim (holds Name c) as (λ b. cond (b || c == 46) (suc (run_length NameOrDot cs)) 0 < suc (length cs) → cond b (suc (name_length Name xs)) (cond (c == 46) (with_dot (name_length Name xs)) 0) ≡ cond b (suc (name_length Name cs)) (cond (c == 46) (with_dot (name_length Name cs)) 0)) [
      | true ↦ λ g. ap suc (name_same cs more (omega arith))
      | false ↦ elim (c == 46) as (λ b. cond b (suc (run_length NameOrDot cs)) 0 < suc (length cs) → cond b (with_dot (name_length Name xs)) 0 ≡ cond b (with_dot (name_length Name cs)) 0) [
        | true ↦ λ g. ap with_dot (name_same cs more (omega arith))
        | false ↦ λ g. refl
      ]
    ] h

prefix_same : (cs more : List ℕ) → run_length NameOrDot cs < length cs → prefix_length (cs ++ more) ≡ prefix_length cs
prefix_same [] more h = absurd (omega arith)
prefix_same (c ∷ cs) more h = ap (λ n. cond (holds NameStart c) n 0) (name_same (c ∷ cs) more h)

prefix_within : (cs : List ℕ) → prefix_length cs ≤ run_length NameOrDot cs
prefix_within cs = let most = name_within cs in elim (begins_with NameStart cs) as (λ b. cond b (name_length Name cs) 0 ≤ run_length NameOrDot cs) [ true ↦ omega (arith, most) | false ↦ omega arith ]

word_open : (cs : List ℕ) (f : RefusalKind) → Other f → word cs ≡ Err f → run_length NameOrDot cs < length cs
word_open cs f other h =
    let n = run_length Name cs in
    let r = run_length NameOrDot cs in
    let most = run_bound NameOrDot cs in
    elim (word_kind (take n cs)) as (λ o. lexeme_of o n (r == length cs) ≡ Err f → r < length cs) [
      | Some k ↦ λ g. absurd (let bad : (let a : Lexeme = Ok (k, n) in a) ≡ Err f = g in cc)
      | None ↦ λ g. elim (r == length cs) as (λ b. (r == length cs) ≡ b → lexeme_of None n b ≡ Err f → r < length cs) [
        | true ↦ λ q j. absurd (other (early f (Err UnexpectedEnd) refl j))
        | false ↦ λ q j. grind (arith, nat_tests, most)
      ] refl g
    ] h

word_stable : (cs more : List ℕ) (f : RefusalKind) → run_length NameOrDot cs < length cs → word cs ≡ Err f → word (cs ++ more) ≡ Err f
word_stable cs more f less h =
    let xs = cs ++ more in
    let n = run_length Name cs in
    let within = run_within cs in
    let names : run_length Name xs ≡ n = run_same Name cs more (omega (arith, within, less)) in
    let dots : run_length NameOrDot xs ≡ run_length NameOrDot cs = run_same NameOrDot cs more less in
    let long : length xs ≡ length cs + length more = length-append cs more in
    let here : (run_length NameOrDot cs == length cs) ≡ false = grind (arith, nat_tests, less) in
    let there : (run_length NameOrDot xs == length xs) ≡ false = grind (arith, nat_tests, less, dots, long) in
    ap (λ k. lexeme_of (word_kind (take k xs)) k (run_length NameOrDot xs == length xs)) names
    ∙ ap (λ x. lexeme_of (word_kind x) n (run_length NameOrDot xs == length xs)) (take_front n cs more (omega (arith, within, less)))
    ∙ ap (lexeme_of (word_kind (take n cs)) n) (there ∙ sym here)
    ∙ h

all_dropped : (n : ℕ) (cs : List ℕ) → n < length cs → drop n cs ≡ [] → ⊥
all_dropped n [] h e = omega arith
all_dropped zero (c ∷ cs) h e = cc
all_dropped (suc n) (c ∷ cs) h e = all_dropped n cs (omega arith) e

name_stable : (cs more : List ℕ) (f : RefusalKind) → Other f → name_or_word cs ≡ Err f → name_or_word (cs ++ more) ≡ Err f
name_stable cs more f other h = by_rest (drop (prefix_length cs) cs) refl h
  where
    xs : List ℕ
    xs = cs ++ more

    by_rest : (d : List ℕ) → drop (prefix_length cs) cs ≡ d → name_at cs (prefix_length cs) d ≡ Err f → name_or_word xs ≡ Err f
    by_rest [] e g =
        let less = word_open cs f other g in
        let within = prefix_within cs in
        absurd (all_dropped (prefix_length cs) cs (omega (arith, less, within)) e)
    by_rest (d ∷ ds) e g = elim (d == 58) as (λ b. (d == 58) ≡ b → cond b (Ok (prefixed (prefix_length cs) ds)) (word cs) ≡ Err f → name_or_word xs ≡ Err f) [
      | true ↦ λ q k. absurd (let bad : (let a : Lexeme = Ok (prefixed (prefix_length cs) ds) in a) ≡ Err f = k in cc)
      | false ↦ λ q k.
          let less = word_open cs f other k in
          let within = prefix_within cs in
          let p = prefix_length cs in
          let rest : drop p xs ≡ d ∷ (ds ++ more) = drop_front p cs more (omega (arith, less, within)) ∙ ap (λ x. x ++ more) e in
          ap (λ n. name_at xs n (drop n xs)) (prefix_same cs more less)
          ∙ ap (name_at xs p) rest
          ∙ ap (λ b. cond b (Ok (prefixed p (ds ++ more))) (word xs)) q
          ∙ word_stable cs more f less k
    ] refl g

-- numbers
abbrev none_at : List ℕ → Bool
none_at u = run_length Digit u == 0 && nat_lt (point_length (drop (run_length Digit u) u)) 2

none_of : (u : List ℕ) → unsigned_number u ≡ None → none_at u ≡ true
none_of u h =
    let d = run_length Digit u in
    let p = point_length (drop d u) in
    let e = exponent_length (drop p (drop d u)) in
    let size : TokenKind → ℕ = λ k. number_length k d p e in
    elim (none_at u) as (λ b. with_length (cond b None (cond (nat_lt 0 e) (Some Double) (cond (nat_lt 1 p) (Some Decimal) (Some Integer)))) size ≡ None → b ≡ true) [
      | true ↦ λ g. refl
      | false ↦ λ g. elim (nat_lt 0 e) as (λ b. with_length (cond b (Some Double) (cond (nat_lt 1 p) (Some Decimal) (Some Integer))) size ≡ None → false ≡ true) [
        | true ↦ λ k. absurd (let bad : Some (Double, size Double) ≡ None = k in cc)
        | false ↦ λ k. elim (nat_lt 1 p) as (λ b. with_length (cond b (Some Decimal) (Some Integer)) size ≡ None → false ≡ true) [
          | true ↦ λ j. absurd (let bad : Some (Decimal, size Decimal) ≡ None = j in cc)
          | false ↦ λ j. absurd (let bad : Some (Integer, size Integer) ≡ None = j in cc)
        ] k
      ] g
    ] h

unsigned_none : (u : List ℕ) → none_at u ≡ true → unsigned_number u ≡ None
unsigned_none u h =
    let d = run_length Digit u in
    let p = point_length (drop d u) in
    let e = exponent_length (drop p (drop d u)) in
    ap (λ b. with_length (cond b None (cond (nat_lt 0 e) (Some Double) (cond (nat_lt 1 p) (Some Decimal) (Some Integer)))) (λ k. number_length k d p e)) h

not_zero : (n : ℕ) → (suc n == 0) ≡ false
not_zero n = grind (arith, nat_tests)

first_no_digit : (x : ℕ) (u : List ℕ) → none_at (x ∷ u) ≡ true → holds Digit x ≡ false
first_no_digit x u h = elim (holds Digit x) as (λ b. (let d = cond b (suc (run_length Digit u)) 0 in d == 0 && nat_lt (point_length (drop d (x ∷ u))) 2) ≡ true → b ≡ false) [
  | true ↦ λ g.
      let n = run_length Digit u in
      let zero_is : (suc n == 0) ≡ true = (and_parts (suc n == 0) (nat_lt (point_length (drop (suc n) (x ∷ u))) 2) g).0 in
      let both : true ≡ false = sym zero_is ∙ not_zero n in cc
  | false ↦ λ g. refl
] h

none_value : (x : ℕ) (u : List ℕ) → holds Digit x ≡ false → none_at (x ∷ u) ≡ nat_lt (cond (x == 46) (suc (run_length Digit u)) 0) 2
none_value x u h = ap (λ b. let d = cond b (suc (run_length Digit u)) 0 in d == 0 && nat_lt (point_length (drop d (x ∷ u))) 2) h

no_digit_behind : (y : ℕ) (r : List ℕ) → nat_lt (suc (run_length Digit (y ∷ r))) 2 ≡ true → holds Digit y ≡ false
no_digit_behind y r h = elim (holds Digit y) as (λ b. nat_lt (suc (cond b (suc (run_length Digit r)) 0)) 2 ≡ true → b ≡ false) [
  | true ↦ λ g. absurd (let n = run_length Digit r in let less : suc (suc n) < 2 = grind (arith, nat_tests) in omega (arith, less))
  | false ↦ λ g. refl
] h

none_more : (u more : List ℕ) → is_cut_number u ≡ false → none_at u ≡ true → none_at (u ++ more) ≡ true
none_more [] more cut none = cc
none_more (x ∷ []) more cut none = let digit = first_no_digit x [] none in none_value x more digit ∙ ap (λ b. nat_lt (cond b (suc (run_length Digit more)) 0) 2) cut
none_more (x ∷ y ∷ r) more cut none =
    let digit = first_no_digit x (y ∷ r) none in
    let before : nat_lt (cond (x == 46) (suc (run_length Digit (y ∷ r))) 0) 2 ≡ true = sym (none_value x (y ∷ r) digit) ∙ none in
    none_value x (y ∷ (r ++ more)) digit ∙ elim (x == 46) as (λ b. nat_lt (cond b (suc (run_length Digit (y ∷ r))) 0) 2 ≡ true → nat_lt (cond b (suc (run_length Digit (y ∷ (r ++ more)))) 0) 2 ≡ true) [
      | true ↦ λ g. ap (λ b. nat_lt (suc (cond b (suc (run_length Digit (r ++ more))) 0)) 2) (no_digit_behind y r g)
      | false ↦ λ g. refl
    ] before

after_none : (n : ℕ) (r : Option (TokenKind × ℕ)) → after_sign n r ≡ None → r ≡ None
after_none n None h = refl
after_none n (Some p) h = absurd (let bad : Some (p.0, n + p.1) ≡ None = h in cc)

number_none : (c : ℕ) (cs : List ℕ) → holds Sign c ≡ true → none_at cs ≡ true → number (c ∷ cs) ≡ None
number_none c cs sign none = ap (λ b. let s = cond b 1 0 in after_sign s (unsigned_number (drop s (c ∷ cs)))) sign ∙ ap (after_sign 1) (unsigned_none cs none)

-- no number begins here: behind a sign there is none, and else there is no digit
pub signed_none : (c : ℕ) (cs : List ℕ) → number (c ∷ cs) ≡ None → ((holds Sign c ≡ true) × (none_at cs ≡ true)) ⊎ (holds Digit c ≡ false)
signed_none c cs h = elim (holds Sign c) as (λ b. holds Sign c ≡ b → (let s = cond b 1 0 in after_sign s (unsigned_number (drop s (c ∷ cs)))) ≡ None → ((b ≡ true) × (none_at cs ≡ true)) ⊎ (holds Digit c ≡ false)) [
  | true ↦ λ q g. inl (refl, none_of cs (after_none 1 (unsigned_number cs) g))
  | false ↦ λ q g. inr (first_no_digit c cs (none_of (c ∷ cs) (after_none 0 (unsigned_number (c ∷ cs)) g)))
] refl h

abbrev Signed : ℕ → List ℕ → Type 0
Signed c cs = (holds Sign c ≡ true) × (none_at cs ≡ true)

sign_or_dot : (c : ℕ) → may_begin_number c ≡ true → (c == 46) ≡ false → holds Digit c ≡ false → holds Sign c ≡ true
sign_or_dot c may dot digit = elim (holds Sign c) as (λ b. (c == 46 || b || holds Digit c) ≡ true → b ≡ true) [
  | true ↦ λ g. refl
  | false ↦ λ g. let bad : (c == 46 || false || holds Digit c) ≡ false = rw (dot, digit) refl in let both : true ≡ false = sym g ∙ bad in cc
] may

sign_no_digit : (c : ℕ) → holds Sign c ≡ true → holds Digit c ≡ false
sign_no_digit c h = refuted (holds Digit c) (λ d. absurd (grind (arith, nat_tests)))

pub is_signed : (c : ℕ) (cs : List ℕ) → may_begin_number c ≡ true → (c == 46) ≡ false → number (c ∷ cs) ≡ None → Signed c cs
is_signed c cs may dot none = by_case (signed_none c cs none)
  where
    by_case : ((holds Sign c ≡ true) × (none_at cs ≡ true)) ⊎ (holds Digit c ≡ false) → Signed c cs
    by_case (inl both) = both
    by_case (inr digit) = let sign = sign_or_dot c may dot digit in (sign, again sign (signed_none c cs none))
      where
        again : holds Sign c ≡ true → ((holds Sign c ≡ true) × (none_at cs ≡ true)) ⊎ (holds Digit c ≡ false) → none_at cs ≡ true
        again sign (inl both) = both.1
        again sign (inr d) = none_of cs (after_none 1 (unsigned_number cs) (sym (ap (λ b. let s = cond b 1 0 in after_sign s (unsigned_number (drop s (c ∷ cs)))) sign) ∙ none))

abbrev pub dot_or : Bool → Bool → Lexeme
dot_or dot cut = cond dot (Ok (Dot, 1)) (cond cut (Err UnexpectedEnd) (Err NoToken))

number_stable : (c : ℕ) (cs more : List ℕ) (f : RefusalKind) → may_begin_number c ≡ true → Other f → number_or_dot (c ∷ cs) ≡ Err f → number_or_dot (c ∷ (cs ++ more)) ≡ Err f
number_stable c cs more f may other h = by_number (number (c ∷ cs)) refl h
  where
    xs : List ℕ
    xs = cs ++ more

    by_number : (o : Option (TokenKind × ℕ)) → number (c ∷ cs) ≡ o → number_found o (c ∷ cs) ≡ Err f → number_or_dot (c ∷ xs) ≡ Err f
    by_number (Some p) e g = absurd (let bad : (let a : Lexeme = Ok p in a) ≡ Err f = g in cc)
    by_number None e g = elim (c == 46) as (λ b. (c == 46) ≡ b → dot_or b (is_cut_number cs) ≡ Err f → number_or_dot (c ∷ xs) ≡ Err f) [
      | true ↦ λ q k. absurd (let bad : (let a : Lexeme = Ok (Dot, 1) in a) ≡ Err f = k in cc)
      | false ↦ λ q k.
          let signed = is_signed c cs may q e in
          let open_ : is_cut_number cs ≡ false = refuted (is_cut_number cs) (λ cut. other (early f (dot_or false (is_cut_number cs)) (ap (dot_or false) cut) k)) in
          let still : is_cut_number xs ≡ false = cut_more cs open_ in
          let none : number (c ∷ xs) ≡ None = number_none c xs signed.0 (none_more cs more open_ signed.1) in
          ap (λ o. number_found o (c ∷ xs)) none
          ∙ ap (λ b. dot_or b (is_cut_number xs)) q
          ∙ ap (dot_or false) still
          ∙ sym (ap (dot_or false) open_)
          ∙ k
    ] refl g
      where
        cut_more : (cs : List ℕ) → is_cut_number cs ≡ false → is_cut_number (cs ++ more) ≡ false
        cut_more [] cut = cc
        cut_more (x ∷ []) cut = by_more x more cut
          where
            by_more : (x : ℕ) (more : List ℕ) → (x == 46) ≡ false → is_cut_number (x ∷ more) ≡ false
            by_more x [] cut = cut
            by_more x (y ∷ r) cut = refl
        cut_more (x ∷ y ∷ r) cut = refl

plain_stable : (c : ℕ) (cs more : List ℕ) (f : RefusalKind) → Other f → plain_token c (c ∷ cs) ≡ Err f → plain_token c (c ∷ (cs ++ more)) ≡ Err f
plain_stable c cs more f other h = by_kind (punctuation c) h
  where
    xs : List ℕ
    xs = cs ++ more

    by_kind : (o : Option TokenKind) → plain_found o c (c ∷ cs) ≡ Err f → plain_found o c (c ∷ xs) ≡ Err f
    by_kind (Some k) g = absurd (let bad : (let a : Lexeme = Ok (k, 1) in a) ≡ Err f = g in cc)
    by_kind None g = elim (may_begin_number c) as (λ b. may_begin_number c ≡ b → cond b (number_or_dot (c ∷ cs)) (cond (may_begin_name c) (name_or_word (c ∷ cs)) (Err NoToken)) ≡ Err f → cond b (number_or_dot (c ∷ xs)) (cond (may_begin_name c) (name_or_word (c ∷ xs)) (Err NoToken)) ≡ Err f) [
      | true ↦ λ q k. number_stable c cs more f q other k
      | false ↦ λ q k. elim (may_begin_name c) as (λ b. cond b (name_or_word (c ∷ cs)) (Err NoToken) ≡ Err f → cond b (name_or_word (c ∷ xs)) (Err NoToken) ≡ Err f) [
        | true ↦ λ j. name_stable (c ∷ cs) more f other j
        | false ↦ λ j. j
      ] k
    ] refl g

pub stable : (m : Bool) (cs more : List ℕ) (f : RefusalKind) → Other f → token_at m cs ≡ Err f → token_at m (cs ++ more) ≡ Err f
stable m [] more f other h = absurd (other (early f (token_at m []) refl h))
stable m (c ∷ cs) more f other h =
    let xs = cs ++ more in
    let marks : List ℕ → Lexeme = λ ds. cond (c == 94) (carets ds) (plain_token c (c ∷ ds)) in
    let labels : List ℕ → Lexeme = λ ds. cond (c == 95) (label ds) (marks ds) in
    let words : List ℕ → Lexeme = λ ds. cond (c == 64) (at_word m ds) (labels ds) in
    let strings : List ℕ → Lexeme = λ ds. cond (c == 34 || c == 39) (string_literal c ds) (words ds) in
    elim (c == 60) as (λ b. cond b (iri_ref cs) (strings cs) ≡ Err f → cond b (iri_ref xs) (strings xs) ≡ Err f) [
      | true ↦ λ k. ap iri_lexeme (enclosed_stable Iri 0 cs more f other (iri_err (enclosed_length Iri 0 cs) f k))
      | false ↦ λ k. elim (c == 34 || c == 39) as (λ b. (c == 34 || c == 39) ≡ b → cond b (string_literal c cs) (words cs) ≡ Err f → cond b (string_literal c xs) (words xs) ≡ Err f) [
        | true ↦ λ q k. string_stable c cs more f q other k
        | false ↦ λ q k. elim (c == 64) as (λ b. cond b (at_word m cs) (labels cs) ≡ Err f → cond b (at_word m xs) (labels xs) ≡ Err f) [
          | true ↦ λ k. at_stable m cs more f other k
          | false ↦ λ k. elim (c == 95) as (λ b. cond b (label cs) (marks cs) ≡ Err f → cond b (label xs) (marks xs) ≡ Err f) [
            | true ↦ λ k. label_stable cs more f other k
            | false ↦ λ k. elim (c == 94) as (λ b. cond b (carets cs) (plain_token c (c ∷ cs)) ≡ Err f → cond b (carets xs) (plain_token c (c ∷ xs)) ≡ Err f) [
              | true ↦ λ k. carets_stable cs more f other k
              | false ↦ λ k. plain_stable c cs more f other k
            ] k
          ] k
        ] k
      ] refl k
    ] h
