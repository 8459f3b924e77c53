-- Two digits after a mark, and the digits that a text begins with.
use Rattle.std.proofs.Common.{◌≡◌, ◌∙◌, subst, ℕ, suc, ◌+◌, ◌*◌, ◌-◌, Bool, true, false, cond, ◌&&◌, nat_eq, List, [], ◌∷◌, ◌++◌, length, take, drop, Some, None, refl, sym, ap, arith}
use Rattle.std.specs.Char.{is_ascii_digit}
use Rattle.std.specs.List.{prefix_len}
use Rattle.std.proofs.lemmas.Bool.{and_parts, and_from, cond-true, eqb-true}
use Rattle.std.proofs.lemmas.Bool.Decides.{Decides-eqb}
use Rattle.std.proofs.lemmas.List.{take-append-drop}
use Rattle.std.proofs.Math.Seq.{take-append_seam, drop-append_seam}
use Rattle.std.proofs.lemmas.Option.{cond_some}
use Rattle.literal_order.specs.Dates.{field, leading_digits, after_digits}
use Rattle.literal_order.specs.Digits.{are_digits}
use Rattle.literal_order.specs.Forms.{AreDigits}
use Rattle.literal_laws.specs.DateForms.{IsTwo}

-- a mark and two digits that write n, and what follows
abbrev pub FieldParts : ℕ → List ℕ → ℕ → List ℕ → Type 0
FieldParts mark text n rest = (two : List ℕ) × (text ≡ mark ∷ (two ++ rest)) × IsTwo n two

two_digits : (a b : ℕ) → is_ascii_digit a ≡ true → is_ascii_digit b ≡ true → IsTwo (10 * (a - 48) + (b - 48)) (a ∷ b ∷ [])
two_digits a b h k = record {
  two = refl;
  digits = and_from (is_ascii_digit a) (is_ascii_digit b && true) h (and_from (is_ascii_digit b) true k refl);
  writes = omega arith;
}

pub field_from : (mark : ℕ) (text : List ℕ) (n : ℕ) (rest : List ℕ) → field mark text ≡ Some (n, rest) → FieldParts mark text n rest
field_from mark [] n rest h = cc
field_from mark (c ∷ []) n rest h = cc
field_from mark (c ∷ a ∷ []) n rest h = cc
field_from mark (c ∷ a ∷ b ∷ cs) n rest h =
    let found = cond_some (nat_eq c mark && is_ascii_digit a && is_ascii_digit b) (10 * (a - 48) + (b - 48), cs) (n, rest) h in
    let tests = and_parts (nat_eq c mark && is_ascii_digit a) (is_ascii_digit b) found.0 in
    let front = and_parts (nat_eq c mark) (is_ascii_digit a) tests.0 in
    let value : 10 * (a - 48) + (b - 48) ≡ n = ap (λ (p : ℕ × List ℕ). p.0) found.1 in
    let after : cs ≡ rest = ap (λ (p : ℕ × List ℕ). p.1) found.1 in
    (a ∷ b ∷ [], ap (λ m. m ∷ (a ∷ b ∷ cs)) (eqb-true c mark front.0) ∙ ap (λ r. mark ∷ (a ∷ b ∷ r)) after, subst (λ v. IsTwo v (a ∷ b ∷ [])) value (two_digits a b front.1 tests.1))

same_mark : (mark : ℕ) → nat_eq mark mark ≡ true
same_mark mark = (Decides-eqb mark mark).1 refl

pub field_to : (mark n : ℕ) (two rest : List ℕ) → IsTwo n two → field mark (mark ∷ (two ++ rest)) ≡ Some (n, rest)
field_to mark n [] rest h = absurd (let none : 0 ≡ 2 = h.two in omega (arith, none))
field_to mark n (a ∷ []) rest h = absurd (let one : 1 ≡ 2 = h.two in omega (arith, one))
field_to mark n (a ∷ b ∷ c ∷ cs) rest h = absurd (let more : length (a ∷ b ∷ c ∷ cs) ≡ 2 = h.two in omega (arith, more))
field_to mark n (a ∷ b ∷ []) rest h =
    let first = and_parts (is_ascii_digit a) (is_ascii_digit b && true) h.digits in
    let second = and_parts (is_ascii_digit b) true first.1 in
    let tests = and_from (nat_eq mark mark && is_ascii_digit a) (is_ascii_digit b) (and_from (nat_eq mark mark) (is_ascii_digit a) (same_mark mark) first.0) second.0 in
    let value : 10 * (a - 48) + (b - 48) ≡ n = omega (arith, h.writes) in
    cond-true (nat_eq mark mark && is_ascii_digit a && is_ascii_digit b) (Some (10 * (a - 48) + (b - 48), rest)) None tests ∙ ap (λ v. Some (v, rest)) value

-- no digit in front
abbrev pub BeginsOtherwise : List ℕ → Type 0
BeginsOtherwise [] = Unit {0}
BeginsOtherwise (c ∷ cs) = is_ascii_digit c ≡ false

none_ahead : (rest : List ℕ) → BeginsOtherwise rest → prefix_len is_ascii_digit rest ≡ 0
none_ahead [] h = refl
none_ahead (c ∷ cs) h = ap (λ b. cond b (1 + prefix_len is_ascii_digit cs) 0) h

one_more : (n : ℕ) → 1 + n ≡ suc n
one_more n = omega arith

prefix_of : (ds rest : List ℕ) → AreDigits ds → BeginsOtherwise rest → prefix_len is_ascii_digit (ds ++ rest) ≡ length ds
prefix_of [] rest h k = none_ahead rest k
prefix_of (c ∷ cs) rest h k =
    let parts = and_parts (is_ascii_digit c) (are_digits cs) h in
    ap (λ b. cond b (1 + prefix_len is_ascii_digit (cs ++ rest)) 0) parts.0 ∙ one_more (prefix_len is_ascii_digit (cs ++ rest)) ∙ ap (λ n. suc n) (prefix_of cs rest parts.1 k)

pub leading : (ds rest : List ℕ) → AreDigits ds → BeginsOtherwise rest → leading_digits (ds ++ rest) ≡ ds
leading ds rest h k = ap (λ n. take n (ds ++ rest)) (prefix_of ds rest h k) ∙ take-append_seam ds rest

pub after : (ds rest : List ℕ) → AreDigits ds → BeginsOtherwise rest → after_digits (ds ++ rest) ≡ rest
after ds rest h k = ap (λ n. drop n (ds ++ rest)) (prefix_of ds rest h k) ∙ drop-append_seam ds rest

-- a text is the digits that it begins with, and what follows
pub digits_and_rest : (text : List ℕ) → text ≡ leading_digits text ++ after_digits text
digits_and_rest text = sym (take-append-drop (prefix_len is_ascii_digit text) text)

leading_step : (c : ℕ) (cs : List ℕ) (b : Bool) → is_ascii_digit c ≡ b → AreDigits (leading_digits cs) → are_digits (take (cond b (1 + prefix_len is_ascii_digit cs) 0) (c ∷ cs)) ≡ true
leading_step c cs true e h = ap (λ n. are_digits (take n (c ∷ cs))) (one_more (prefix_len is_ascii_digit cs)) ∙ and_from (is_ascii_digit c) (are_digits (leading_digits cs)) e h
leading_step c cs false e h = refl

pub leading_are_digits : (text : List ℕ) → AreDigits (leading_digits text)
leading_are_digits [] = refl
leading_are_digits (c ∷ cs) = leading_step c cs (is_ascii_digit c) refl (leading_are_digits cs)
