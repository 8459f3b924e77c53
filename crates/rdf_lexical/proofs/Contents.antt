-- The characters that an IRIREF or a string stands for.
use Rattle.std.proofs.Common.{◌≡◌, ◌∙◌, ℕ, zero, suc, ◌+◌, ◌-◌, Bool, true, false, cond, eqb, ltb, ◌||◌, List, [], ◌∷◌, ◌++◌, length, take, drop, Option, Some, None, refl, sym, ap, subst, arith, length-append, inl, inr}
use Rattle.std.specs.Prelude.{replicate}
use Rattle.std.specs.List.{AllByRecursion, list_all}
use Rattle.std.proofs.lemmas.Bool.{and_parts, and_from}
use Rattle.std.proofs.lemmas.Bool.Decides.{nat_tests}
use Rattle.std.proofs.Math.Seq.{drop-append_seam}
use lib.Utf8.{encodes, encode, scalars, scalar}
use Rattle.rdf_lexical.specs.declared.enclosing.Enclosed.{Enclosed}
use Rattle.rdf_lexical.specs.declared.enclosing.Enclosed.TheVariants.{Iri, Text}
use Rattle.rdf_lexical.specs.declared.escapes.Escape.TheVariants as escapes
use Rattle.rdf_lexical.specs.Characters.{is_within, is_iri_char}
use Rattle.rdf_lexical.specs.declared.classes.Class.TheVariants.{Hexadecimal}
use Rattle.rdf_lexical.specs.Classes.{run_length}
use Rattle.rdf_lexical.specs.Escapes.{escaped_char, scalar_of, hex_number_from, numbered_char}
use Rattle.rdf_lexical.specs.Escaping.{escape_of, numbered_escape, character_escape, escape_at}
use Rattle.rdf_lexical.specs.Enclosed.{mark, closing_length, may_hold}
use Rattle.rdf_lexical.specs.Meanings.{escaped_character, character_at, unescaped}
use Rattle.rdf_lexical.specs.Productions.{joined_texts, IsUchar, IsEchar, IsEscape, IsUnit, IsPiece}
use Rattle.rdf_lexical.proofs.Runs.{apart}
use Rattle.rdf_lexical.proofs.EnclosedTokens.{uchar_met, echar_met, backslash_not_held}
use Rattle.rdf_lexical.proofs.Unescaping.{skip_escape}

-- what an escape may stand for
abbrev pub may_stand_for : Enclosed → ℕ → Bool
may_stand_for Iri c = is_iri_char c
may_stand_for (Text quotes) c = true

in_range : (n : ℕ) → (ltb n 0xD800 || is_within 0xE000 0x10FFFF n) ≡ true → scalar n ≡ true
in_range n h = grind (arith, nat_tests)

scalar_some : (o : Option ℕ) (x : ℕ) → scalar_of o ≡ Some x → scalar x ≡ true
scalar_some None x h = cc
scalar_some (Some n) x h = elim (ltb n 0xD800 || is_within 0xE000 0x10FFFF n) as (λ b. (ltb n 0xD800 || is_within 0xE000 0x10FFFF n) ≡ b → cond b (Some n) None ≡ Some x → scalar x ≡ true) [
  | true ↦ λ q k. let e : n ≡ x = cc in subst (λ (y : ℕ). scalar y ≡ true) e (in_range n q)
  | false ↦ λ q k. cc
] refl h

known_scalar : (d x : ℕ) → scalar d ≡ true → Some d ≡ Some x → scalar x ≡ true
known_scalar d x s h = let e : d ≡ x = cc in subst (λ (y : ℕ). scalar y ≡ true) e s

abbrev last_escapes : Bool → ℕ → Option ℕ
last_escapes b c = cond b (Some c) None

escaped_scalar : (c x : ℕ) → scalar c ≡ true → escaped_char c ≡ Some x → scalar x ≡ true
escaped_scalar c x s h =
    let same = eqb c 34 || eqb c 39 || eqb c 92 in
    elim (eqb c 116) as (λ b. cond b (Some 9) (cond (eqb c 98) (Some 8) (cond (eqb c 110) (Some 10) (cond (eqb c 114) (Some 13) (cond (eqb c 102) (Some 12) (last_escapes same c))))) ≡ Some x → scalar x ≡ true) [
      | true ↦ known_scalar 9 x refl
      | false ↦ elim (eqb c 98) as (λ b. cond b (Some 8) (cond (eqb c 110) (Some 10) (cond (eqb c 114) (Some 13) (cond (eqb c 102) (Some 12) (last_escapes same c)))) ≡ Some x → scalar x ≡ true) [
        | true ↦ known_scalar 8 x refl
        | false ↦ elim (eqb c 110) as (λ b. cond b (Some 10) (cond (eqb c 114) (Some 13) (cond (eqb c 102) (Some 12) (last_escapes same c))) ≡ Some x → scalar x ≡ true) [
          | true ↦ known_scalar 10 x refl
          | false ↦ elim (eqb c 114) as (λ b. cond b (Some 13) (cond (eqb c 102) (Some 12) (last_escapes same c)) ≡ Some x → scalar x ≡ true) [
            | true ↦ known_scalar 13 x refl
            | false ↦ elim (eqb c 102) as (λ b. cond b (Some 12) (last_escapes same c) ≡ Some x → scalar x ≡ true) [
              | true ↦ known_scalar 12 x refl
              | false ↦ elim same as (λ b. last_escapes b c ≡ Some x → scalar x ≡ true) [ true ↦ known_scalar c x s | false ↦ λ k. cc ]
            ]
          ]
        ]
      ]
    ] h

uchar_scalar : (t : List ℕ) (v : ℕ) → IsUchar t v → scalar v ≡ true
uchar_scalar t v (inl (ds, e, size, all, is)) = scalar_some (hex_number_from 0 ds) v is
uchar_scalar t v (inr (ds, e, size, all, is)) = scalar_some (hex_number_from 0 ds) v is

echar_scalar : (t : List ℕ) (v : ℕ) → scalars t ≡ true → IsEchar t v → scalar v ≡ true
echar_scalar t v s (c, e, is) =
    let two : scalars (92 ∷ c ∷ []) ≡ true = subst (λ (x : List ℕ). scalars x ≡ true) e s in
    escaped_scalar c v ((and_parts (scalar c) true two).0) is

-- an escape before what follows it
met_value : (t r : List ℕ) (v n : ℕ) (u : List ℕ) → t ≡ 92 ∷ u → length u ≡ n → escape_at (u ++ r) ≡ escapes.Character v n → unescaped 0 (t ++ r) ≡ encode v ++ unescaped 0 r
met_value t r v n u is size met =
    let less : suc n - 1 ≡ n = omega arith in
    let long : length (u ++ r) ≡ length u + length r = length-append u r in
    let rest : drop n (u ++ r) ≡ r = ap (λ k. drop k (u ++ r)) (sym size) ∙ drop-append_seam u r in
    ap (λ x. unescaped 0 (x ++ r)) is
    ∙ ap (λ x. encode (escaped_character x).0 ++ unescaped ((escaped_character x).1 - 1) (u ++ r)) met
    ∙ ap (λ k. encode v ++ unescaped k (u ++ r)) less
    ∙ ap (λ x. encode v ++ x) (skip_escape n (u ++ r) (omega arith) ∙ ap (unescaped 0) rest)

abbrev pub StandsFor : Enclosed → List ℕ → Type 0
StandsFor e t = (v : ℕ) × ((r : List ℕ) → unescaped 0 (t ++ r) ≡ encode v ++ unescaped 0 r) × (may_stand_for e v ≡ true) × (scalar v ≡ true)

uchar_value : (t : List ℕ) (v : ℕ) → IsUchar t v → (r : List ℕ) → unescaped 0 (t ++ r) ≡ encode v ++ unescaped 0 r
uchar_value t v uchar r = let met = uchar_met t r v uchar in met_value t r v met.0 met.1 met.2 met.3 met.4

pub echar_value : (t : List ℕ) (v : ℕ) → IsEchar t v → (r : List ℕ) → unescaped 0 (t ++ r) ≡ encode v ++ unescaped 0 r
echar_value t v echar r = let met = echar_met t r v echar in met_value t r v met.0 met.1 met.2 met.3 met.4

escape_value : (e : Enclosed) (t : List ℕ) → scalars t ≡ true → IsEscape e t → StandsFor e t
escape_value Iri t s (v, uchar, held) = (v, uchar_value t v uchar, held, uchar_scalar t v uchar)
escape_value (Text quotes) t s (v, inl uchar) = (v, uchar_value t v uchar, refl, uchar_scalar t v uchar)
escape_value (Text quotes) t s (v, inr echar) = (v, echar_value t v echar, refl, echar_scalar t v s echar)

stands_if_held : (e : Enclosed) (c : ℕ) → may_hold e c ≡ true → may_stand_for e c ≡ true
stands_if_held Iri c h = h
stands_if_held (Text quotes) c h = refl

-- a character that stands for itself
pub plain_value : (e : Enclosed) (c : ℕ) (r : List ℕ) → may_hold e c ≡ true → unescaped 0 (c ∷ r) ≡ encode c ++ unescaped 0 r
plain_value e c r held =
    let other = apart (may_hold e) c 92 held (backslash_not_held e) in
    ap (λ b. encode (cond b (escaped_character (escape_at r)) (c, 1)).0 ++ unescaped ((cond b (escaped_character (escape_at r)) (c, 1)).1 - 1) r) other

unit_value : (e : Enclosed) (t : List ℕ) → scalars t ≡ true → IsUnit e t → StandsFor e t
unit_value e t s (inl (c, is, held)) =
    let one : scalars (c ∷ []) ≡ true = subst (λ (x : List ℕ). scalars x ≡ true) is s in
    (c, (λ r. ap (λ x. unescaped 0 (x ++ r)) is ∙ plain_value e c r held), stands_if_held e c held, (and_parts (scalar c) true one).0)
unit_value e t s (inr escape) = escape_value e t s escape

pub scalars_parts : (a b : List ℕ) → scalars (a ++ b) ≡ true → (scalars a ≡ true) × (scalars b ≡ true)
scalars_parts [] b s = (refl, s)
scalars_parts (c ∷ a) b s =
    let p = and_parts (scalar c) (scalars (a ++ b)) s in
    let q = scalars_parts a b p.1 in
    (and_from (scalar c) (scalars a) p.0 q.0, q.1)

-- the pieces of an IRIREF or of a short string
pub pieces_value : (e : Enclosed) (ps : List (List ℕ)) → closing_length e ≡ 1 → AllByRecursion (IsPiece e) ps → scalars (joined_texts ps) ≡ true
    → (vs : List ℕ) × (unescaped 0 (joined_texts ps) ≡ encodes vs) × (list_all (may_stand_for e) vs ≡ true) × (scalars vs ≡ true)
pieces_value e [] one all s = ([], refl, refl, refl)
pieces_value e (p ∷ ps) one ((n, u, is, few, unit), all) s =
    let none : n ≡ 0 = omega arith in
    let same : p ≡ u = is ∙ ap (λ k. replicate k (mark e) ++ u) none in
    let parts = scalars_parts p (joined_texts ps) s in
    let v = unit_value e u (subst (λ (x : List ℕ). scalars x ≡ true) same parts.0) unit in
    let more = pieces_value e ps one all parts.1 in (
      v.0 ∷ more.0,
      ap (λ x. unescaped 0 (x ++ joined_texts ps)) same ∙ v.1 (joined_texts ps) ∙ ap (λ x. encode v.0 ++ x) more.1,
      and_from (may_stand_for e v.0) (list_all (may_stand_for e) more.0) v.2 more.2,
      and_from (scalar v.0) (scalars more.0) v.3 more.3,
    )

-- any escape stands for a character
of_scalar : (n : ℕ) (o : Option ℕ) → ((x : ℕ) → o ≡ Some x → scalar x ≡ true) → scalar (escaped_character (escape_of n o)).0 ≡ true
of_scalar n None h = refl
of_scalar n (Some x) h = h x refl

numbered_scalar : (count : ℕ) (cs : List ℕ) → scalar (escaped_character (numbered_escape count cs)).0 ≡ true
numbered_scalar count cs =
    elim (ltb (run_length Hexadecimal cs) count) as (λ b. scalar (escaped_character (cond b (cond (eqb (run_length Hexadecimal cs) (length cs)) escapes.Cut escapes.Faulty) (escape_of (suc count) (numbered_char (take count cs))))).0 ≡ true) [
      | true ↦ elim (eqb (run_length Hexadecimal cs) (length cs)) as (λ b. scalar (escaped_character (cond b escapes.Cut escapes.Faulty)).0 ≡ true) [ true ↦ refl | false ↦ refl ]
      | false ↦ of_scalar (suc count) (numbered_char (take count cs)) (λ x e. scalar_some (hex_number_from 0 (take count cs)) x e)
    ]

escape_scalar : (cs : List ℕ) → scalars cs ≡ true → scalar (escaped_character (escape_at cs)).0 ≡ true
escape_scalar [] s = refl
escape_scalar (c ∷ cs) s =
    elim (eqb c 117) as (λ b. scalar (escaped_character (cond b (numbered_escape 4 cs) (cond (eqb c 85) (numbered_escape 8 cs) (character_escape c)))).0 ≡ true) [
      | true ↦ numbered_scalar 4 cs
      | false ↦ elim (eqb c 85) as (λ b. scalar (escaped_character (cond b (numbered_escape 8 cs) (character_escape c))).0 ≡ true) [
        | true ↦ numbered_scalar 8 cs
        | false ↦ of_scalar 1 (escaped_char c) (λ x e. escaped_scalar c x ((and_parts (scalar c) (scalars cs) s).0) e)
      ]
    ]

character_scalar : (c : ℕ) (cs : List ℕ) → scalar c ≡ true → scalars cs ≡ true → scalar (character_at c cs).0 ≡ true
character_scalar c cs one s = elim (eqb c 92) as (λ b. scalar (cond b (escaped_character (escape_at cs)) (c, 1)).0 ≡ true) [ true ↦ escape_scalar cs s | false ↦ one ]

-- the value of any string is a text
pub unescaped_text : (n : ℕ) (cs : List ℕ) → scalars cs ≡ true → (vs : List ℕ) × (unescaped n cs ≡ encodes vs) × (scalars vs ≡ true)
unescaped_text n [] s = ([], refl, refl)
unescaped_text (suc n) (c ∷ cs) s = unescaped_text n cs ((and_parts (scalar c) (scalars cs) s).1)
unescaped_text zero (c ∷ cs) s =
    let parts = and_parts (scalar c) (scalars cs) s in
    let more = unescaped_text ((character_at c cs).1 - 1) cs parts.1 in
    let v : ℕ = (character_at c cs).0 in
    (v ∷ more.0, ap (λ x. encode v ++ x) more.1, and_from (scalar v) (scalars more.0) (character_scalar c cs parts.0 parts.1) more.2)
