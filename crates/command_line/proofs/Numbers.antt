-- What parsing a text as a number says of the number that it is the decimal of.
use Rattle.std.proofs.Common.{◌≡◌, ◌≢◌, ℕ, zero, suc, ◌<◌, ◌≤◌, ◌^◌, ◌&&◌, ◌==◌, Bool, true, false, not, List, [], ◌∷◌, length, Some, None, sym, ap, subst, ◌∙◌, arith, get_or, nat_lt, nat_le, bytes_eq, refl, if◌then◌else◌}
use Rattle.std.specs.Prelude.{Ok, Err}
use Rattle.std.specs.Fmt.{decimal}
use Rattle.std.specs.Str.Parse.{IsNumeral, digits_value, without_leading_plus}
use Rattle.std.proofs.lemmas.Fmt.{parse-decimal, decimal-digits_value, first_decimal, decimal_digit}
use Rattle.std.proofs.lemmas.Str.Parse.{numerals_by_value, tells_digits, without_leading_plus_none}
use Rattle.std.proofs.lemmas.Slice.Eq.{bytes_eq-Decides}
use Rattle.std.proofs.lemmas.Bool.Decides.{nat_tests}
use Rattle.command_line.specs.Words.{limit_of}
use Rattle.command_line.specs.Plain.{begins_plainly}

pub both : (a b : Bool) → (a && b) ≡ true → (a ≡ true) × (b ≡ true)
both true b h = (refl, h)
both false b h = cc

-- a text is no number of an option where it isn't the decimal of one
pub none_unless : (text : List ℕ) → ((n : ℕ) → text ≡ decimal n → 1 ≤ n → n ≤ 2000000 → ⊥) → limit_of text ≡ None
none_unless text h =
    let n = digits_value 10 text in
    elim (bytes_eq text (decimal n) && nat_le 1 n && nat_le n 2000000) as (λ b. (bytes_eq text (decimal n) && nat_le 1 n && nat_le n 2000000) ≡ b → (if b then Some n else None) ≡ None) [
      | true ↦ λ e.
          let p = both (bytes_eq text (decimal n) && nat_le 1 n) (nat_le n 2000000) e in
          let q = both (bytes_eq text (decimal n)) (nat_le 1 n) p.0 in
          absurd (h n ((bytes_eq-Decides text (decimal n)).0 q.0) (grind (arith, nat_tests, q.1)) (grind (arith, nat_tests, p.1)))
      | false ↦ λ e. refl
    ] refl

-- the decimal of a number from 1 on begins with a digit that isn't zero
first : (text : List ℕ) (n : ℕ) → text ≡ decimal n → 1 ≤ n → n ≤ 2000000 → 48 < get_or text 0 0
first text n e one most = subst (λ (t : List ℕ). 48 < get_or t 0 0) (sym e) (first_decimal n (omega (arith, one)) (omega (arith, most)))

plain-cons : (c : ℕ) (cs : List ℕ) → begins_plainly (c ∷ cs) ≡ (not (c == 48) && not (c == 43))
plain-cons c cs = let f : nat_lt 0 (length (c ∷ cs)) ≡ true = grind (arith, nat_tests) in rw f refl

plus_is_no_digit : (c : ℕ) → 48 < c → (not (c == 48) && not (c == 43)) ≡ false → ⊥
plus_is_no_digit c f q =
    let a : (c == 48) ≡ false = grind (arith, nat_tests, f) in
    let b : (c == 43) ≡ false = grind (arith, nat_tests, f) in
    let no : true ≡ false = sym (rw (a, b) refl) ∙ q in cc

pub none_where_not_plain : (text : List ℕ) → begins_plainly text ≡ false → limit_of text ≡ None
none_where_not_plain [] p = none_unless [] (λ n e one most. let f = first [] n e one most in omega (arith, f))
none_where_not_plain (c ∷ cs) p = none_unless (c ∷ cs) (λ n e one most. let f : 48 < c = first (c ∷ cs) n e one most in let q : (not (c == 48) && not (c == 43)) ≡ false = sym (plain-cons c cs) ∙ p in plus_is_no_digit c f q)

pub none_where_unread : (text : List ℕ) → (IsNumeral 10 (without_leading_plus text) × (digits_value 10 (without_leading_plus text) < 2 ^ 32) → ⊥) → limit_of text ≡ None
none_where_unread text p = none_unless text (λ n is one most. let r : Err tt ≡ Ok n = parse-decimal {E = Unit {0}} 32 n text (Err tt) (omega (arith, most)) (omega (arith, most)) is p in cc)

-- a numeral that begins plainly is the decimal of its value
read_is_decimal : (text : List ℕ) (n : ℕ) → begins_plainly text ≡ true → IsNumeral 10 (without_leading_plus text) × (digits_value 10 (without_leading_plus text) < 2 ^ 32) → n ≡ digits_value 10 (without_leading_plus text) → (decimal n ≡ text) × (digits_value 10 text ≡ n)
read_is_decimal [] n b p e = cc
read_is_decimal (c ∷ cs) n b p e =
    let q = both (not (c == 48)) (not (c == 43)) (sym (plain-cons c cs) ∙ b) in
    let not_zero : c ≢ 48 = λ h. let t : (c == 48) ≡ true = grind (arith, nat_tests, h) in let no : not true ≡ true = subst (λ (x : Bool). not x ≡ true) t q.0 in cc in
    let not_plus : c ≢ 43 = λ h. let t : (c == 43) ≡ true = grind (arith, nat_tests, h) in let no : not true ≡ true = subst (λ (x : Bool). not x ≡ true) t q.1 in cc in
    let whole : without_leading_plus (c ∷ cs) ≡ c ∷ cs = without_leading_plus_none (c ∷ cs) not_plus in
    let numeral : IsNumeral 10 (c ∷ cs) × (digits_value 10 (c ∷ cs) < 2 ^ 32) = subst (λ (ds : List ℕ). IsNumeral 10 ds × (digits_value 10 ds < 2 ^ 32)) whole p in
    let value : digits_value 10 (c ∷ cs) ≡ n = sym (e ∙ ap (digits_value 10) whole) in
    (ap decimal (sym value) ∙ decimal-digits_value (numerals_by_value _ tells_digits) (c ∷ cs) numeral.0.1 numeral.0.0 (λ h. absurd (not_zero h)) (omega (arith, numeral.1)), value)

pub none_where_large : (text : List ℕ) (n : ℕ) → begins_plainly text ≡ true → IsNumeral 10 (without_leading_plus text) × (digits_value 10 (without_leading_plus text) < 2 ^ 32) → n ≡ digits_value 10 (without_leading_plus text) → 2000000 < n → limit_of text ≡ None
none_where_large text n b p e large =
    let v = (read_is_decimal text n b p e).1 in
    elim (bytes_eq text (decimal (digits_value 10 text)) && nat_le 1 (digits_value 10 text)) as (λ t. (if t && nat_le (digits_value 10 text) 2000000 then Some (digits_value 10 text) else None) ≡ None) [
      | true ↦ let f : nat_le (digits_value 10 text) 2000000 ≡ false = grind (arith, nat_tests, v, large) in rw f refl
      | false ↦ refl
    ]

-- no decimal that begins plainly is that of zero
positive : (text : List ℕ) (n : ℕ) → begins_plainly text ≡ true → decimal n ≡ text → 1 ≤ n
positive text zero b e =
    let is : 48 ∷ [] ≡ text = sym (decimal_digit 0 (omega arith)) ∙ e in
    let f : begins_plainly (48 ∷ []) ≡ true = subst (λ (t : List ℕ). begins_plainly t ≡ true) (sym is) b in
    let no : (not (48 == 48) && not (48 == 43)) ≡ true = sym (plain-cons 48 []) ∙ f in cc
positive text (suc n) b e = omega arith

pub some_where_read : (text : List ℕ) (n : ℕ) → begins_plainly text ≡ true → IsNumeral 10 (without_leading_plus text) × (digits_value 10 (without_leading_plus text) < 2 ^ 32) → n ≡ digits_value 10 (without_leading_plus text) → n ≤ 2000000 → limit_of text ≡ Some n
some_where_read text n b p e most =
    let d = read_is_decimal text n b p e in
    let same : bytes_eq text (decimal n) ≡ true = (bytes_eq-Decides text (decimal n)).1 (sym d.0) in
    let one : nat_le 1 n ≡ true = grind (arith, nat_tests, positive text n b d.0) in
    let bound : nat_le n 2000000 ≡ true = grind (arith, nat_tests, most) in
    subst (λ (m : ℕ). (if bytes_eq text (decimal m) && nat_le 1 m && nat_le m 2000000 then Some m else None) ≡ Some n) (sym d.1) (rw (same, one, bound) refl)
