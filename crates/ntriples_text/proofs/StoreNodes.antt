-- Blank nodes that a written text may have, by the kind of its labels, and their labels.
use Rattle.std.proofs.Common.{◌≡◌, ◌∙◌, ℕ, zero, suc, ◌<◌, ◌≤◌, Bool, true, false, cond, ◌==◌, ◌||◌, List, [], ◌∷◌, ◌++◌, length, Ok, codes, refl, sym, ap, subst, arith, append_assoc, append-nil}
use Rattle.std.specs.List.{list_all}
use Rattle.std.specs.Fmt.{decimal}
use Rattle.std.specs.Char.{digit_value}
use Rattle.std.specs.Str.{IsAscii}
use Rattle.std.specs.Str.Parse.{AllDigits}
use Rattle.std.proofs.lemmas.Bool.{and_parts, and_from, eqb-true}
use Rattle.std.proofs.lemmas.Bool.Decides.{nat_tests}
use Rattle.std.proofs.lemmas.Fmt.{decimal_is_IsNumeral}
use Rattle.std.proofs.lemmas.Str.{encodes-IsAscii, encodes-append}
use Rattle.std.proofs.lemmas.Str.Parse.{digit_at}
use lib.Utf8.{encodes, scalars, scalar}
use Rattle.rdf_lexical.specs.declared.classes.Class.TheVariants.{NameOrColon}
use Rattle.rdf_lexical.specs.Characters.{is_line_end, is_pn_chars_u, is_within}
use Rattle.rdf_lexical.specs.Classes.{holds}
use Rattle.rdf_lexical.specs.Names.{name_length, with_dot}
use Rattle.rdf_model.specs.declared.term.Term.TheVariants.{Blank}
use Rattle.rdf_model.specs.NTriples.{term_text}
use Rattle.ntriples_text.specs.declared.statement.LabelKind.{LabelKind}
use Rattle.ntriples_text.specs.declared.statement.LabelKind.TheVariants.{OfText, OfStore}
use Rattle.ntriples_text.specs.declared.statement.Node.TheVariants.{Plain}
use Rattle.ntriples_text.specs.Grammar.{labelled, stored as given}
use Rattle.ntriples_text.specs.Laws.{IsNone, IsStored}
use Rattle.ntriples_text.proofs.LabelLaws.{stored}

-- where labels are those of the text none, else those that a label of the store may name
abbrev pub IsNodeOf : LabelKind → ℕ → ℕ → Type 0
IsNodeOf OfText s n = IsNone s n
IsNodeOf OfStore s n = IsStored s n

pub stored_of : (labels : LabelKind) (s n : ℕ) → IsNodeOf labels s n → IsStored s n
stored_of OfText s n h = absurd h
stored_of OfStore s n h = h

abbrev pub node_label : ℕ → ℕ → List ℕ
node_label s n = 115 ∷ (decimal s ++ 120 ∷ decimal n)

pub gives_node : (labels : LabelKind) (s n : ℕ) → IsNodeOf labels s n → labelled labels (node_label s n) ≡ Ok (Plain (Blank s n))
gives_node OfText s n h = absurd h
gives_node OfStore s n h = ap given (stored (node_label s n) s n h refl)

pub blank_text : (s n : ℕ) → term_text (Blank s n) ≡ 95 ∷ 58 ∷ node_label s n
blank_text s n = text (decimal s) (decimal n)
  where
    text : (a b : List ℕ) → codes "_:s" ++ a ++ codes "x" ++ b ≡ 95 ∷ 58 ∷ 115 ∷ (a ++ 120 ∷ b)
    text a b = simp append_assoc

-- the characters of such labels
abbrev pub is_plain : ℕ → Bool
is_plain c = is_within 48 57 c || c == 115 || c == 120

plain_digit : (c : ℕ) → digit_value c < 10 → is_plain c ≡ true
plain_digit c h = let range = digit_at (c ∷ []) 0 (h, tt) (omega arith) in grind (arith, nat_tests, range.0, range.1)

plain_digits : (ds rest : List ℕ) → AllDigits 10 ds → list_all is_plain rest ≡ true → list_all is_plain (ds ++ rest) ≡ true
plain_digits [] rest d h = h
plain_digits (c ∷ cs) rest d h = and_from (is_plain c) (list_all is_plain (cs ++ rest)) (plain_digit c d.0) (plain_digits cs rest d.1 h)

all_digits : (n : ℕ) → n ≤ 4294967295 → AllDigits 10 (decimal n)
all_digits n le = (decimal_is_IsNumeral n (omega (arith, le))).0.1

pub plain_label : (s n : ℕ) → IsStored s n → list_all is_plain (node_label s n) ≡ true
plain_label s n h =
    let most = h.1 in
    let last : list_all is_plain (decimal n) ≡ true = subst (λ (ds : List ℕ). list_all is_plain ds ≡ true) (append-nil (decimal n)) (plain_digits (decimal n) [] (all_digits n h.3) refl) in
    plain_digits (decimal s) (120 ∷ decimal n) (all_digits s (omega (arith, most))) last

pub not_end_plain : (c : ℕ) → is_plain c ≡ true → is_line_end c ≡ false
not_end_plain c h = grind (arith, nat_tests)

small_plain : (c : ℕ) → is_plain c ≡ true → c < 128
small_plain c h = grind (arith, nat_tests)

plain_ascii : (cs : List ℕ) → list_all is_plain cs ≡ true → IsAscii cs
plain_ascii [] h i = omega arith
plain_ascii (c ∷ cs) h zero = small_plain c (and_parts (is_plain c) (list_all is_plain cs) h).0
plain_ascii (c ∷ cs) h (suc i) = plain_ascii cs (and_parts (is_plain c) (list_all is_plain cs) h).1 i

pub encodes_label : (s n : ℕ) (rest : List ℕ) → IsStored s n → encodes (node_label s n ++ rest) ≡ node_label s n ++ encodes rest
encodes_label s n rest h = encodes-append (node_label s n) rest ∙ ap (λ b. b ++ encodes rest) (encodes-IsAscii (node_label s n) (plain_ascii (node_label s n) (plain_label s n h)))

pub label_alone : (s n : ℕ) → IsStored s n → encodes (node_label s n) ≡ node_label s n
label_alone s n h = encodes-IsAscii (node_label s n) (plain_ascii (node_label s n) (plain_label s n h))

plain_scalar : (c : ℕ) → is_plain c ≡ true → scalar c ≡ true
plain_scalar c h = let small = small_plain c h in grind (arith, nat_tests, small)

pub plain_scalars : (cs rest : List ℕ) → list_all is_plain cs ≡ true → scalars rest ≡ true → scalars (cs ++ rest) ≡ true
plain_scalars [] rest h e = e
plain_scalars (c ∷ cs) rest h e = let p = and_parts (is_plain c) (list_all is_plain cs) h in and_from (scalar c) (scalars (cs ++ rest)) (plain_scalar c p.0) (plain_scalars cs rest p.1 e)

-- they are of a name, which ends before a space
some_within : (u m w d x y k : Bool) → w ≡ true → (u || m || w || d || x || y || k) ≡ true
some_within u m w d x y k e = subst (λ (b : Bool). (u || m || b || d || x || y || k) ≡ true) (sym e) (elim u as (λ (a : Bool). (a || m || true || d || x || y || k) ≡ true) [
  | true ↦ refl
  | false ↦ elim m as (λ (a : Bool). (false || a || true || d || x || y || k) ≡ true) [ true ↦ refl | false ↦ refl ]
])

named_digit : (c : ℕ) → is_within 48 57 c ≡ true → holds NameOrColon c ≡ true
named_digit c e = some_within (is_pn_chars_u c) (c == 45) (is_within 48 57 c) (c == 0xB7) (is_within 0x300 0x36F c) (is_within 0x203F 0x2040 c) (c == 58) e

plain_name : (c : ℕ) → is_plain c ≡ true → holds NameOrColon c ≡ true
plain_name c h = elim (is_within 48 57 c) as (λ b. is_within 48 57 c ≡ b → holds NameOrColon c ≡ true) [
  | true ↦ λ e. named_digit c e
  | false ↦ λ e. elim (c == 115) as (λ b. (c == 115) ≡ b → holds NameOrColon c ≡ true) [
    | true ↦ λ q. subst (λ (x : ℕ). holds NameOrColon x ≡ true) (sym (eqb-true c 115 q)) refl
    | false ↦ λ q. (let last : (c == 120) ≡ true = grind (arith, e, q, h) in subst (λ (x : ℕ). holds NameOrColon x ≡ true) (sym (eqb-true c 120 last)) refl)
  ] refl
] refl

pub name_before_space : (cs u : List ℕ) → list_all is_plain cs ≡ true → name_length NameOrColon (cs ++ 32 ∷ u) ≡ length cs
name_before_space [] u h = refl
name_before_space (c ∷ cs) u h =
    let p = and_parts (is_plain c) (list_all is_plain cs) h in
    let more = name_length NameOrColon (cs ++ 32 ∷ u) in
    ap (λ b. cond b (suc more) (cond (c == 46) (with_dot more) 0)) (plain_name c p.0) ∙ ap suc (name_before_space cs u p.1)
