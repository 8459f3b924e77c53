-- The words of the grammar, and language tags.
use Rattle.std.proofs.Common.{◌≡◌, ◌∙◌, nat_lt, ℕ, suc, ◌+◌, ◌<◌, ◌≤◌, Bool, true, false, cond, ◌==◌, ◌&&◌, List, [], ◌∷◌, ◌++◌, length, drop, Option, Some, None, refl, sym, ap, subst, arith}
use Rattle.std.specs.Prelude.{map, codes, nat_eq, bytes_eq}
use Rattle.std.specs.List.{AllByRecursion}
use Rattle.std.specs.Char.{to_ascii_lowercase}
use lib.Pointwise.{pointwise}
use Rattle.std.proofs.lemmas.Bool.{eqb-true, eq-eqb}
use Rattle.std.proofs.lemmas.Bool.Decides.{nat_tests}
use Rattle.rdf_lexical.specs.Characters.{is_within, is_ascii_letter}
use Rattle.turtle_lex.specs.declared.token.TokenKind.{TokenKind}
use Rattle.turtle_lex.specs.declared.token.TokenKind.TheVariants.{A, True, False, Prefix, Base}
use Rattle.rdf_lexical.specs.declared.classes.Class.TheVariants.{Letter, NameStart, Name}
use Rattle.rdf_lexical.specs.Classes.{holds, begins_with, run_length}
use Rattle.rdf_lexical.specs.Names.{name_length}
use Rattle.turtle_lex.specs.Words.{is_in_any_case, word_kind}
use Rattle.rdf_lexical.specs.Productions.{AllOf}
use Rattle.turtle_lex.specs.Productions.{IsToken, IsWhole}

both : (a b : Bool) → (a && b) ≡ true → (a ≡ true) × (b ≡ true)
both true b h = (refl, h)
both false b h = cc

pub word_same : (a b : List ℕ) → pointwise nat_eq a b ≡ true → a ≡ b
word_same [] [] h = refl
word_same [] (d ∷ b) h = cc
word_same (c ∷ a) [] h = cc
word_same (c ∷ a) (d ∷ b) h = let parts = both (nat_eq c d) (pointwise nat_eq a b) h in ap (λ x. x ∷ a) (eqb-true c d parts.0) ∙ ap (λ x. d ∷ x) (word_same a b parts.1)

case_same : (a b : List ℕ) → is_in_any_case a b ≡ true → map to_ascii_lowercase a ≡ b
case_same [] [] h = refl
case_same [] (d ∷ b) h = cc
case_same (c ∷ a) [] h = cc
case_same (c ∷ a) (d ∷ b) h = let parts = both (to_ascii_lowercase c == d) (is_in_any_case a b) h in ap (λ x. x ∷ map to_ascii_lowercase a) (eqb-true (to_ascii_lowercase c) d parts.0) ∙ ap (λ x. d ∷ x) (case_same a b parts.1)

in_own_case : (a : List ℕ) → is_in_any_case a (map to_ascii_lowercase a) ≡ true
in_own_case [] = refl
in_own_case (c ∷ a) = ap (λ b. b && is_in_any_case a (map to_ascii_lowercase a)) (eq-eqb (to_ascii_lowercase c) (to_ascii_lowercase c) refl) ∙ in_own_case a

-- a test that would make two things equal that aren't
refuted : (b : Bool) → (b ≡ true → ⊥) → b ≡ false
refuted true h = absurd (h refl)
refuted false h = refl

abbrev head_of : List ℕ → ℕ
head_of [] = 0
head_of (c ∷ cs) = c

apart_words : (t w l : List ℕ) → map to_ascii_lowercase t ≡ l → ((w ≡ t) → map to_ascii_lowercase w ≡ l → ⊥) → bytes_eq t w ≡ false
apart_words t w l is other = refuted (bytes_eq t w) (λ h. let same = word_same t w h in other (sym same) (ap (map to_ascii_lowercase) (sym same) ∙ is))

pub prefix_kind : (t : List ℕ) → map to_ascii_lowercase t ≡ codes "prefix" → word_kind t ≡ Some Prefix
prefix_kind t is =
    let a = apart_words t (codes "a") (codes "prefix") is (λ s e. let h = ap head_of e in absurd (omega arith)) in
    let b = apart_words t (codes "true") (codes "prefix") is (λ s e. let h = ap head_of e in absurd (omega arith)) in
    let c = apart_words t (codes "false") (codes "prefix") is (λ s e. let h = ap head_of e in absurd (omega arith)) in
    let d : is_in_any_case t (codes "prefix") ≡ true = subst (λ (l : List ℕ). is_in_any_case t l ≡ true) is (in_own_case t) in
    rw (a, b, c, d) refl

pub base_kind : (t : List ℕ) → map to_ascii_lowercase t ≡ codes "base" → word_kind t ≡ Some Base
base_kind t is =
    let a = apart_words t (codes "a") (codes "base") is (λ s e. let h = ap head_of e in absurd (omega arith)) in
    let b = apart_words t (codes "true") (codes "base") is (λ s e. let h = ap head_of e in absurd (omega arith)) in
    let c = apart_words t (codes "false") (codes "base") is (λ s e. let h = ap head_of e in absurd (omega arith)) in
    let d : is_in_any_case t (codes "prefix") ≡ false = refuted (is_in_any_case t (codes "prefix")) (λ h. let e = ap head_of (sym is ∙ case_same t (codes "prefix") h) in absurd (omega arith)) in
    let e : is_in_any_case t (codes "base") ≡ true = subst (λ (l : List ℕ). is_in_any_case t l ≡ true) is (in_own_case t) in
    rw (a, b, c, d, e) refl

-- the words are of ASCII letters
lower_letter : (c d : ℕ) → to_ascii_lowercase c ≡ d → is_within 97 122 d ≡ true → is_ascii_letter c ≡ true
lower_letter c d is h =
    let low : 97 ≤ d = grind (arith, nat_tests) in
    let high : d ≤ 122 = grind (arith, nat_tests) in
    elim (nat_lt c 65) as (λ b. nat_lt c 65 ≡ b → cond b c (cond (nat_lt c 91) (c + 32) c) ≡ d → is_ascii_letter c ≡ true) [
      | true ↦ λ e f. grind (arith, nat_tests)
      | false ↦ λ e. elim (nat_lt c 91) as (λ b. nat_lt c 91 ≡ b → cond b (c + 32) c ≡ d → is_ascii_letter c ≡ true) [
        | true ↦ λ g f. grind (arith, nat_tests)
        | false ↦ λ g f. grind (arith, nat_tests)
      ] refl
    ] refl is

pub letters_of : (t l : List ℕ) → map to_ascii_lowercase t ≡ l → AllByRecursion (λ d. is_within 97 122 d ≡ true) l → AllOf Letter t
letters_of [] l is all = tt
letters_of (c ∷ t) [] is all = cc
letters_of (c ∷ t) (d ∷ l) is all = let first : to_ascii_lowercase c ≡ d = cc in let rest : map to_ascii_lowercase t ≡ l = cc in (lower_letter c d first all.0, letters_of t l rest all.1)

letter_start : (c : ℕ) → holds Letter c ≡ true → holds NameStart c ≡ true
letter_start c h = rw h refl

letter_name : (c : ℕ) → holds Letter c ≡ true → holds Name c ≡ true
letter_name c h = rw h refl

pub letters_begin : (t : List ℕ) → 0 < length t → AllOf Letter t → begins_with NameStart t ≡ true
letters_begin [] some all = absurd (omega arith)
letters_begin (c ∷ t) some all = letter_start c all.0

pub letters_name : (t : List ℕ) → AllOf Letter t → AllOf Name t
letters_name [] all = tt
letters_name (c ∷ t) all = (letter_name c all.0, letters_name t all.1)

-- what kind a word has
abbrev pub WordIs : Option TokenKind → List ℕ → Type 0
WordIs None t = Unit {0}
WordIs (Some k) t = ((m : Bool) → IsToken m k t) × ((u : List ℕ) → begins_with Name u ≡ false → IsWhole k t u)

pub word_is : (t : List ℕ) → WordIs (word_kind t) t
word_is t = elim (bytes_eq t (codes "a")) as (λ b. bytes_eq t (codes "a") ≡ b → WordIs (cond b (Some A) (cond (bytes_eq t (codes "true")) (Some True) (cond (bytes_eq t (codes "false")) (Some False) (cond (is_in_any_case t (codes "prefix")) (Some Prefix) (cond (is_in_any_case t (codes "base")) (Some Base) None))))) t) [
  | true ↦ λ h. ((λ m. word_same t (codes "a") h), λ u e. e)
  | false ↦ λ h. elim (bytes_eq t (codes "true")) as (λ b. bytes_eq t (codes "true") ≡ b → WordIs (cond b (Some True) (cond (bytes_eq t (codes "false")) (Some False) (cond (is_in_any_case t (codes "prefix")) (Some Prefix) (cond (is_in_any_case t (codes "base")) (Some Base) None)))) t) [
    | true ↦ λ h. ((λ m. word_same t (codes "true") h), λ u e. e)
    | false ↦ λ h. elim (bytes_eq t (codes "false")) as (λ b. bytes_eq t (codes "false") ≡ b → WordIs (cond b (Some False) (cond (is_in_any_case t (codes "prefix")) (Some Prefix) (cond (is_in_any_case t (codes "base")) (Some Base) None))) t) [
      | true ↦ λ h. ((λ m. word_same t (codes "false") h), λ u e. e)
      | false ↦ λ h. elim (is_in_any_case t (codes "prefix")) as (λ b. is_in_any_case t (codes "prefix") ≡ b → WordIs (cond b (Some Prefix) (cond (is_in_any_case t (codes "base")) (Some Base) None)) t) [
        | true ↦ λ h. ((λ m. case_same t (codes "prefix") h), λ u e. e)
        | false ↦ λ h. elim (is_in_any_case t (codes "base")) as (λ b. is_in_any_case t (codes "base") ≡ b → WordIs (cond b (Some Base) None) t) [
          | true ↦ λ h. ((λ m. case_same t (codes "base") h), λ u e. e)
          | false ↦ λ h. tt
        ] refl
      ] refl
    ] refl
  ] refl
] refl

-- a name reaches over PN_CHARS
pub name_over : (t u : List ℕ) → AllOf Name t → length t ≤ name_length Name (t ++ u)
name_over [] u all = omega arith
name_over (c ∷ t) u all = let more = name_over t u all.1 in let e : name_length Name (c ∷ (t ++ u)) ≡ suc (name_length Name (t ++ u)) = rw (all.0) refl in omega arith

pub run_ends : (cs : List ℕ) → begins_with Name (drop (run_length Name cs) cs) ≡ false
run_ends [] = refl
run_ends (c ∷ cs) = elim (holds Name c) as (λ b. holds Name c ≡ b → begins_with Name (drop (cond b (suc (run_length Name cs)) 0) (c ∷ cs)) ≡ false) [
  | true ↦ λ h. run_ends cs
  | false ↦ λ h. h
] refl
