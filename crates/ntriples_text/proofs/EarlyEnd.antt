-- Where a text ends within a token, or within an escape.
use Rattle.std.proofs.Common.{◌≡◌, ◌≢◌, ◌↔◌, ◌∙◌, ℕ, suc, ◌+◌, ◌<◌, Bool, true, false, cond, ◌==◌, List, [], ◌∷◌, ◌++◌, length, take, drop, Result, Ok, Err, refl, sym, ap, subst, arith, append-nil, ◌⊎◌, inl, inr}
use Rattle.std.specs.Prelude.{replicate, codes}
use Rattle.std.proofs.lemmas.Bool.{eqb-true}
use Rattle.std.proofs.lemmas.List.{take-append-drop}
use Rattle.rdf_lexical.specs.declared.refusal.RefusalKind.{RefusalKind}
use Rattle.rdf_lexical.specs.declared.refusal.RefusalKind.TheVariants.{NoToken, UnexpectedEnd}
use Rattle.rdf_lexical.specs.declared.classes.Class.TheVariants.{Letter, NameUnderscoreColonOrDigit, NameOrColon}
use Rattle.rdf_lexical.specs.declared.quoting.Quotes.TheVariants.{Double}
use Rattle.rdf_lexical.specs.declared.enclosing.Enclosed.TheVariants.{Iri, Text}
use Rattle.rdf_lexical.specs.Refusals.{◌>>=◌}
use Rattle.rdf_lexical.specs.Characters.{is_line_end}
use Rattle.rdf_lexical.specs.Classes.{holds}
use Rattle.rdf_lexical.specs.Names.{name_length}
use Rattle.rdf_lexical.specs.Tags.{tag_length}
use Rattle.rdf_lexical.specs.Enclosed.{enclosed_length}
use Rattle.rdf_lexical.specs.Productions.{joined_texts}
use Rattle.rdf_lexical.proofs.TagTexts.{no_tag, some_tag}
use Rattle.rdf_lexical.proofs.Cut.{Other, is_early, early_is, other_is, enclosed_stable, enclosed_cut, cut_met, IsCutBody}
use Rattle.ntriples_text.specs.declared.lexeme.TokenKind.{TokenKind}
use Rattle.ntriples_text.specs.declared.lexeme.TokenKind.TheVariants.{IriRef, StringLiteral, BlankNodeLabel, LanguageTag, Carets, Dot, LineEnd}
use Rattle.ntriples_text.specs.declared.token.Token.{Token}
use Rattle.ntriples_text.specs.Tokens.{Parsed, Lexeme, skipped, of_kind, label_after_colon, label, language_tag, carets, mark, lexeme, token_of, token_at, token}
use Rattle.ntriples_text.specs.Productions.{HasNoToken, BeginsToken, EndsInEscape}
use Rattle.ntriples_text.specs.Laws.{EndsEarly}
use Rattle.ntriples_text.proofs.Lexemes.{IsFound, token_found, Reaches, reached, none_missed}

-- A fault other than the early end stays, whatever follows.
early : (f : RefusalKind) (r : Lexeme) → r ≡ Err UnexpectedEnd → r ≡ Err f → f ≡ UnexpectedEnd
early f r is h = let same : (let a : Lexeme = Err UnexpectedEnd in a) ≡ Err f = sym is ∙ h in cc

of_kind_err : (k : TokenKind) (r : Result ℕ RefusalKind) (f : RefusalKind) → of_kind k r ≡ Err f → r ≡ Err f
of_kind_err k (Ok n) f h = cc
of_kind_err k (Err g) f h = let same : g ≡ f = cc in ap (λ x. Err x) same

abbrev found_label : Bool → ℕ → Lexeme
found_label b n = cond b (Ok (BlankNodeLabel, n)) (Err NoToken)

after_colon_stable : (cs more : List ℕ) (f : RefusalKind) → Other f → label_after_colon cs ≡ Err f → label_after_colon (cs ++ more) ≡ Err f
after_colon_stable [] more f other h = absurd (other (early f (label_after_colon []) refl h))
after_colon_stable (c ∷ cs) more f other h = elim (holds NameUnderscoreColonOrDigit c) as (λ b. found_label b (2 + name_length NameOrColon (c ∷ cs)) ≡ Err f → found_label b (2 + name_length NameOrColon (c ∷ (cs ++ more))) ≡ Err f) [
  | true ↦ λ k. cc
  | false ↦ λ k. k
] h

label_stable : (cs more : List ℕ) (f : RefusalKind) → Other f → label cs ≡ Err f → label (cs ++ more) ≡ Err f
label_stable [] more f other h = absurd (other (early f (label []) refl h))
label_stable (c ∷ cs) more f other h = elim (c == 58) as (λ b. cond b (label_after_colon cs) (Err NoToken) ≡ Err f → cond b (label_after_colon (cs ++ more)) (Err NoToken) ≡ Err f) [
  | true ↦ λ k. after_colon_stable cs more f other k
  | false ↦ λ k. k
] h

tag_stable : (cs more : List ℕ) (f : RefusalKind) → Other f → language_tag cs ≡ Err f → language_tag (cs ++ more) ≡ Err f
tag_stable [] more f other h = absurd (other (early f (language_tag []) refl h))
tag_stable (c ∷ cs) more f other h = elim (holds Letter c) as (λ b. holds Letter c ≡ b → language_tag (c ∷ (cs ++ more)) ≡ Err f) [
  | true ↦ λ q. let found : language_tag (c ∷ cs) ≡ Ok (LanguageTag, suc (tag_length (c ∷ cs))) = ap (λ b. cond b (Err NoToken) (Ok (LanguageTag, suc (tag_length (c ∷ cs))))) (some_tag c cs q) in cc
  | false ↦ λ q.
      let here : language_tag (c ∷ cs) ≡ Err NoToken = ap (λ b. cond b (Err NoToken) (Ok (LanguageTag, suc (tag_length (c ∷ cs))))) (no_tag c cs q) in
      let there : language_tag (c ∷ (cs ++ more)) ≡ Err NoToken = ap (λ b. cond b (Err NoToken) (Ok (LanguageTag, suc (tag_length (c ∷ (cs ++ more)))))) (no_tag c (cs ++ more) q) in
      there ∙ sym here ∙ h
] refl

carets_stable : (cs more : List ℕ) (f : RefusalKind) → Other f → carets cs ≡ Err f → carets (cs ++ more) ≡ Err f
carets_stable [] more f other h = absurd (other (early f (carets []) refl h))
carets_stable (c ∷ cs) more f other h = h

mark_stable : (c : ℕ) (cs more : List ℕ) (f : RefusalKind) → Other f → mark c cs ≡ Err f → mark c (cs ++ more) ≡ Err f
mark_stable c cs more f other h =
    let last : Lexeme = cond (c == 46) (Ok (Dot, 1)) (cond (is_line_end c) (Ok (LineEnd, 1)) (Err NoToken)) in
    elim (c == 94) as (λ b. cond b (carets cs) last ≡ Err f → cond b (carets (cs ++ more)) last ≡ Err f) [
      | true ↦ λ k. carets_stable cs more f other k
      | false ↦ λ k. k
    ] h

stable : (cs more : List ℕ) (f : RefusalKind) → Other f → lexeme cs ≡ Err f → lexeme (cs ++ more) ≡ Err f
stable [] more f other h = absurd (other (early f (lexeme []) refl h))
stable (c ∷ cs) more f other h =
    let xs = cs ++ more in
    let tags : List ℕ → Lexeme = λ ds. cond (c == 64) (language_tag ds) (mark c ds) in
    let labels : List ℕ → Lexeme = λ ds. cond (c == 95) (label ds) (tags ds) in
    let strings : List ℕ → Lexeme = λ ds. cond (c == 34) (of_kind StringLiteral (enclosed_length (Text Double) 0 ds)) (labels ds) in
    elim (c == 60) as (λ b. cond b (of_kind IriRef (enclosed_length Iri 0 cs)) (strings cs) ≡ Err f → cond b (of_kind IriRef (enclosed_length Iri 0 xs)) (strings xs) ≡ Err f) [
      | true ↦ λ k. ap (of_kind IriRef) (enclosed_stable Iri 0 cs more f other (of_kind_err IriRef (enclosed_length Iri 0 cs) f k))
      | false ↦ λ k. elim (c == 34) as (λ b. cond b (of_kind StringLiteral (enclosed_length (Text Double) 0 cs)) (labels cs) ≡ Err f → cond b (of_kind StringLiteral (enclosed_length (Text Double) 0 xs)) (labels xs) ≡ Err f) [
        | true ↦ λ k. ap (of_kind StringLiteral) (enclosed_stable (Text Double) 0 cs more f other (of_kind_err StringLiteral (enclosed_length (Text Double) 0 cs) f k))
        | false ↦ λ k. elim (c == 95) as (λ b. cond b (label cs) (tags cs) ≡ Err f → cond b (label xs) (tags xs) ≡ Err f) [
          | true ↦ λ k. label_stable cs more f other k
          | false ↦ λ k. elim (c == 64) as (λ b. cond b (language_tag cs) (mark c cs) ≡ Err f → cond b (language_tag xs) (mark c xs) ≡ Err f) [
            | true ↦ λ k. tag_stable cs more f other k
            | false ↦ λ k. mark_stable c cs more f other k
          ] k
        ] k
      ] k
    ] h

abbrev is_cut : Lexeme → Bool
is_cut (Ok p) = false
is_cut (Err f) = is_early f

not_cut : (r : Lexeme) → is_cut r ≡ false → r ≡ Err UnexpectedEnd → ⊥
not_cut r h is = let both : true ≡ false = sym (ap is_cut is) ∙ h in cc

-- What is cut off begins a token, or ends in an escape.
abbrev IsCut : List ℕ → Type 0
IsCut text = BeginsToken text ⊎ EndsInEscape text

no_marks_left : (n : ℕ) (m : ℕ) → n < 1 → replicate n m ≡ []
no_marks_left n m few = let none : n ≡ 0 = omega arith in ap (λ k. replicate k m) none

closed_by : (cs js y m : List ℕ) → cs ≡ js ++ y → y ≡ [] → cs ++ m ≡ js ++ m
closed_by cs js y m parts none = ap (λ x. x ++ m) (parts ∙ ap (λ x. js ++ x) none ∙ append-nil js)

iri_cut : (c : ℕ) (cs : List ℕ) → c ≡ 60 → IsCutBody Iri cs → IsCut (c ∷ cs)
iri_cut c cs is (ps, y, parts, all, (n, few, inl end)) =
    let whole = closed_by cs (joined_texts ps) y (62 ∷ []) parts (end ∙ no_marks_left n 62 few) in
    inl (IriRef, 62 ∷ [], (cs ++ 62 ∷ [], ap (λ x. x ∷ (cs ++ 62 ∷ [])) is, (ps, whole, all)))
iri_cut c cs is (ps, y, parts, all, (n, few, inr (d, end, cut))) = inr (inl (cs, ap (λ x. x ∷ cs) is, (ps, n, d, parts ∙ ap (λ x. joined_texts ps ++ x) end, all, few, cut)))

string_cut : (c : ℕ) (cs : List ℕ) → c ≡ 34 → IsCutBody (Text Double) cs → IsCut (c ∷ cs)
string_cut c cs is (ps, y, parts, all, (n, few, inl end)) =
    let whole = closed_by cs (joined_texts ps) y (34 ∷ []) parts (end ∙ no_marks_left n 34 few) in
    inl (StringLiteral, 34 ∷ [], (cs ++ 34 ∷ [], ap (λ x. x ∷ (cs ++ 34 ∷ [])) is, (ps, whole, all)))
string_cut c cs is (ps, y, parts, all, (n, few, inr (d, end, cut))) = inr (inr (cs, ap (λ x. x ∷ cs) is, (ps, n, d, parts ∙ ap (λ x. joined_texts ps ++ x) end, all, few, cut)))

label_cut : (c : ℕ) (cs : List ℕ) → c ≡ 95 → label cs ≡ Err UnexpectedEnd → IsCut (c ∷ cs)
label_cut c [] is h = inl (BlankNodeLabel, 58 ∷ 97 ∷ [], (97, [], ap (λ x. x ∷ 58 ∷ 97 ∷ []) is, refl, inl refl))
label_cut c (d ∷ []) is h = elim (d == 58) as (λ b. (d == 58) ≡ b → cond b (label_after_colon []) (Err NoToken) ≡ Err UnexpectedEnd → IsCut (c ∷ d ∷ [])) [
  | true ↦ λ q k. inl (BlankNodeLabel, 97 ∷ [], (97, [], ap (λ x. x ∷ d ∷ 97 ∷ []) is ∙ ap (λ x. 95 ∷ x ∷ 97 ∷ []) (eqb-true d 58 q), refl, inl refl))
  | false ↦ λ q k. cc
] refl h
label_cut c (d ∷ e ∷ cs) is h = absurd (not_cut (label (d ∷ e ∷ cs)) (label_open d e cs) h)
  where
    label_open : (d e : ℕ) (cs : List ℕ) → is_cut (label (d ∷ e ∷ cs)) ≡ false
    label_open d e cs = elim (d == 58) as (λ b. is_cut (cond b (label_after_colon (e ∷ cs)) (Err NoToken)) ≡ false) [
      | true ↦ elim (holds NameUnderscoreColonOrDigit e) as (λ b. is_cut (found_label b (2 + name_length NameOrColon (e ∷ cs))) ≡ false) [ true ↦ refl | false ↦ refl ]
      | false ↦ refl
    ]

tag_open : (d : ℕ) (ds : List ℕ) → is_cut (language_tag (d ∷ ds)) ≡ false
tag_open d ds = elim (tag_length (d ∷ ds) == 0) as (λ b. is_cut (cond b (Err NoToken) (Ok (LanguageTag, suc (tag_length (d ∷ ds))))) ≡ false) [ true ↦ refl | false ↦ refl ]

tag_cut : (c : ℕ) (cs : List ℕ) → c ≡ 64 → language_tag cs ≡ Err UnexpectedEnd → IsCut (c ∷ cs)
tag_cut c [] is h = inl (LanguageTag, 97 ∷ [], (97 ∷ [], [], ap (λ x. x ∷ 97 ∷ []) is, (refl, (refl, tt)), tt))
tag_cut c (d ∷ ds) is h = absurd (not_cut (language_tag (d ∷ ds)) (tag_open d ds) h)

carets_open : (d : ℕ) (ds : List ℕ) → is_cut (carets (d ∷ ds)) ≡ false
carets_open d ds = elim (d == 94) as (λ b. is_cut (cond b (Ok (Carets, 2)) (Err NoToken)) ≡ false) [ true ↦ refl | false ↦ refl ]

carets_cut : (c : ℕ) (cs : List ℕ) → c ≡ 94 → carets cs ≡ Err UnexpectedEnd → IsCut (c ∷ cs)
carets_cut c [] is h = inl (Carets, 94 ∷ [], ap (λ x. x ∷ 94 ∷ []) is)
carets_cut c (d ∷ ds) is h = absurd (not_cut (carets (d ∷ ds)) (carets_open d ds) h)

abbrev one_mark : ℕ → Lexeme
one_mark c = cond (c == 46) (Ok (Dot, 1)) (cond (is_line_end c) (Ok (LineEnd, 1)) (Err NoToken))

one_mark_open : (c : ℕ) → is_cut (one_mark c) ≡ false
one_mark_open c = elim (c == 46) as (λ b. is_cut (cond b (Ok (Dot, 1)) (cond (is_line_end c) (Ok (LineEnd, 1)) (Err NoToken))) ≡ false) [
  | true ↦ refl
  | false ↦ elim (is_line_end c) as (λ b. is_cut (cond b (Ok (LineEnd, 1)) (Err NoToken)) ≡ false) [ true ↦ refl | false ↦ refl ]
]

mark_cut : (c : ℕ) (cs : List ℕ) → mark c cs ≡ Err UnexpectedEnd → IsCut (c ∷ cs)
mark_cut c cs h = elim (c == 94) as (λ b. (c == 94) ≡ b → cond b (carets cs) (one_mark c) ≡ Err UnexpectedEnd → IsCut (c ∷ cs)) [
  | true ↦ λ q k. carets_cut c cs (eqb-true c 94 q) k
  | false ↦ λ q k. absurd (not_cut (one_mark c) (one_mark_open c) k)
] refl h

cut_off : (cs : List ℕ) → lexeme cs ≡ Err UnexpectedEnd → IsCut cs
cut_off [] h = inl (Dot, codes ".", refl)
cut_off (c ∷ cs) h = elim (c == 60) as (λ b. (c == 60) ≡ b → cond b (of_kind IriRef (enclosed_length Iri 0 cs)) (cond (c == 34) (of_kind StringLiteral (enclosed_length (Text Double) 0 cs)) (cond (c == 95) (label cs) (cond (c == 64) (language_tag cs) (mark c cs)))) ≡ Err UnexpectedEnd → IsCut (c ∷ cs)) [
  | true ↦ λ q k. iri_cut c cs (eqb-true c 60 q) (enclosed_cut Iri cs (of_kind_err IriRef (enclosed_length Iri 0 cs) UnexpectedEnd k))
  | false ↦ λ q k. elim (c == 34) as (λ b. (c == 34) ≡ b → cond b (of_kind StringLiteral (enclosed_length (Text Double) 0 cs)) (cond (c == 95) (label cs) (cond (c == 64) (language_tag cs) (mark c cs))) ≡ Err UnexpectedEnd → IsCut (c ∷ cs)) [
    | true ↦ λ q k. string_cut c cs (eqb-true c 34 q) (enclosed_cut (Text Double) cs (of_kind_err StringLiteral (enclosed_length (Text Double) 0 cs) UnexpectedEnd k))
    | false ↦ λ q k. elim (c == 95) as (λ b. (c == 95) ≡ b → cond b (label cs) (cond (c == 64) (language_tag cs) (mark c cs)) ≡ Err UnexpectedEnd → IsCut (c ∷ cs)) [
      | true ↦ λ q k. label_cut c cs (eqb-true c 95 q) k
      | false ↦ λ q k. elim (c == 64) as (λ b. (c == 64) ≡ b → cond b (language_tag cs) (mark c cs) ≡ Err UnexpectedEnd → IsCut (c ∷ cs)) [
        | true ↦ λ q k. tag_cut c cs (eqb-true c 64 q) k
        | false ↦ λ q k. mark_cut c cs k
      ] refl k
    ] refl k
  ] refl k
] refl h

-- And the other way round.
begun_ends : (cs : List ℕ) (r : Lexeme) → lexeme cs ≡ r → HasNoToken cs → BeginsToken cs → r ≡ Err UnexpectedEnd
begun_ends cs (Ok p) is none begun =
    let here : IsFound (Ok p) cs = subst (λ x. IsFound x cs) is (token_found cs) in
    absurd (none p.0 (take p.1 cs) (drop p.1 cs) (sym (take-append-drop p.1 cs)) here.0)
begun_ends cs (Err f) is none (k, more, token) = elim (is_early f) as (λ b. is_early f ≡ b → (let r : Lexeme = Err f in r) ≡ Err UnexpectedEnd) [
  | true ↦ λ e. ap (λ x. Err x) (early_is f e)
  | false ↦ λ e.
      let still : lexeme ((cs ++ more) ++ []) ≡ Err f = ap lexeme (append-nil (cs ++ more)) ∙ stable cs more f (other_is f e) is in
      absurd (subst (λ x. Reaches k x (length (cs ++ more))) still (reached k (cs ++ more) [] token))
] refl

escape_ends : (cs : List ℕ) → EndsInEscape cs → lexeme cs ≡ Err UnexpectedEnd
escape_ends cs (inl (b, is, (ps, n, d, parts, all, few, cut))) = ap lexeme (is ∙ ap (λ x. 60 ∷ x) parts) ∙ ap (of_kind IriRef) (cut_met Iri ps n d all few cut)
escape_ends cs (inr (b, is, (ps, n, d, parts, all, few, cut))) = ap lexeme (is ∙ ap (λ x. 34 ∷ x) parts) ∙ ap (of_kind StringLiteral) (cut_met (Text Double) ps n d all few cut)

ends_at : (cs : List ℕ) → HasNoToken cs → IsCut cs → lexeme cs ≡ Err UnexpectedEnd
ends_at cs none (inl begun) = begun_ends cs (lexeme cs) refl none begun
ends_at cs none (inr escape) = escape_ends cs escape

-- the reader's token
abbrev read_of : List ℕ → Lexeme → Parsed Token
read_of cs r = r >>= λ p. Ok (token_of p.0 (take p.1 cs), drop p.1 cs)

fault_of : (cs : List ℕ) (r : Lexeme) → read_of cs r ≡ Err UnexpectedEnd → r ≡ Err UnexpectedEnd
fault_of cs (Ok p) h = cc
fault_of cs (Err f) h = let same : f ≡ UnexpectedEnd = cc in ap (λ x. Err x) same

at : (cs : List ℕ) → (token_at cs ≡ Err UnexpectedEnd) ↔ ((cs ≢ []) × HasNoToken cs × IsCut cs)
at [] = ((λ h. cc), (λ h. absurd (h.0 refl)))
at (c ∷ cs) = (
  (λ h. let found = fault_of (c ∷ cs) (lexeme (c ∷ cs)) h in ((λ e. cc), none_missed (c ∷ cs) UnexpectedEnd found, cut_off (c ∷ cs) found)),
  (λ h. ap (read_of (c ∷ cs)) (ends_at (c ∷ cs) h.1 h.2)),
)

pub ends_early : EndsEarly
unfolding token
ends_early text = at (skipped text)
