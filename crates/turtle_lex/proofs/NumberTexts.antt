-- The longest number is an INTEGER, a DECIMAL or a DOUBLE.
use Rattle.std.proofs.Common.{◌≡◌, ◌∙◌, nat_lt, ℕ, zero, suc, ◌+◌, ◌<◌, true, false, cond, ◌==◌, ◌||◌, ◌&&◌, List, [], ◌∷◌, ◌++◌, take, drop, Option, Some, None, refl, sym, ap, subst, arith, append-nil, ◌⊎◌, inl, inr}
use Rattle.std.proofs.lemmas.Bool.{eqb-true}
use Rattle.std.proofs.lemmas.Bool.Decides.{nat_tests}
use Rattle.std.proofs.lemmas.List.{drop-drop}
use Rattle.std.proofs.Math.Seq.{take-add}
use Rattle.turtle_lex.specs.declared.token.TokenKind.{TokenKind}
use Rattle.turtle_lex.specs.declared.token.TokenKind.TheVariants.{Integer, Decimal, Double}
use Rattle.rdf_lexical.specs.declared.classes.Class.TheVariants.{Sign, Digit}
use Rattle.rdf_lexical.specs.Classes.{holds, begins_with, run_length}
use Rattle.turtle_lex.specs.Numbers.{sign_length, point_length, signed_digits, exponent_length, number_kind, number_length, with_length, unsigned_number, after_sign, number}
use Rattle.rdf_lexical.specs.Productions.{AllOf, SomeOf}
use Rattle.turtle_lex.specs.Productions.{IsSign, IsInteger, IsDecimal, IsExponent, IsMantissa, IsDouble}
use Rattle.rdf_lexical.proofs.Runs.{run_taken, run_begins}

-- what stands behind the sign
abbrev IsUnsigned : TokenKind → List ℕ → Type 0
IsUnsigned Integer t = SomeOf Digit t
IsUnsigned Decimal t = (d f : List ℕ) × (t ≡ d ++ 46 ∷ f) × AllOf Digit d × SomeOf Digit f
IsUnsigned Double t = (m e : List ℕ) × (t ≡ m ++ e) × IsMantissa m × IsExponent e
IsUnsigned _ t = ⊥

abbrev pub IsNumber : TokenKind → List ℕ → Type 0
IsNumber Integer t = IsInteger t
IsNumber Decimal t = IsDecimal t
IsNumber Double t = IsDouble t
IsNumber _ t = ⊥

abbrev pub GivesNumber : Option (TokenKind × ℕ) → List ℕ → Type 0
GivesNumber None cs = Unit {0}
GivesNumber (Some p) cs = IsNumber p.0 (take p.1 cs)

abbrev GivesUnsigned : Option (TokenKind × ℕ) → List ℕ → Type 0
GivesUnsigned None cs = Unit {0}
GivesUnsigned (Some p) cs = IsUnsigned p.0 (take p.1 cs)

sign_shape : (cs : List ℕ) → IsSign (take (sign_length cs) cs)
sign_shape [] = inl refl
sign_shape (c ∷ cs) = elim (holds Sign c) as (λ b. holds Sign c ≡ b → IsSign (take (cond b 1 0) (c ∷ cs))) [
  | true ↦ λ e. inr (c, refl, e)
  | false ↦ λ e. inl refl
] refl

digits_shape : (cs : List ℕ) → 0 < run_length Digit cs → SomeOf Digit (take (run_length Digit cs) cs)
digits_shape cs h = (some (run_length Digit cs) refl h, run_taken Digit cs)
  where
    some : (n : ℕ) → run_length Digit cs ≡ n → 0 < n → begins_with Digit (take (run_length Digit cs) cs) ≡ true
    some zero e h = absurd (omega arith)
    some (suc n) e h = run_begins Digit cs n e

abbrev Point : List ℕ → ℕ → Type 0
Point r p = (p ≡ 0) ⊎ ((f : List ℕ) × (take p r ≡ 46 ∷ f) × AllOf Digit f × (1 < p → SomeOf Digit f))

point_shape : (r : List ℕ) → Point r (point_length r)
point_shape [] = inl refl
point_shape (c ∷ cs) = elim (c == 46) as (λ b. (c == 46) ≡ b → Point (c ∷ cs) (cond b (suc (run_length Digit cs)) 0)) [
  | true ↦ λ e. inr (take (run_length Digit cs) cs, ap (λ n. n ∷ take (run_length Digit cs) cs) (eqb-true c 46 e), run_taken Digit cs, λ h. digits_shape cs (omega arith))
  | false ↦ λ e. inl refl
] refl

abbrev Exponent : List ℕ → ℕ → Type 0
Exponent r n = 0 < n → IsExponent (take n r)

exponent_shape : (r : List ℕ) → Exponent r (exponent_length r)
exponent_shape [] = λ h. absurd (omega arith)
exponent_shape (c ∷ cs) =
    let s = sign_length cs in
    let d = run_length Digit (drop s cs) in
    elim (c == 101 || c == 69) as (λ b. (c == 101 || c == 69) ≡ b → Exponent (c ∷ cs) (cond b (cond (signed_digits cs == 0) 0 (suc (signed_digits cs))) 0)) [
      | true ↦ λ letter. elim (d == 0) as (λ b. (d == 0) ≡ b → Exponent (c ∷ cs) (cond (cond b 0 (s + d) == 0) 0 (suc (cond b 0 (s + d))))) [
        | true ↦ λ e h. absurd (omega arith)
        | false ↦ λ e. let some : 0 < d = grind (arith, nat_tests) in let any : (s + d == 0) ≡ false = grind (arith, nat_tests) in
            subst (λ n. Exponent (c ∷ cs) n) (sym (ap (λ b. cond b 0 (suc (s + d))) any))
            (λ h. (c, take s cs, take d (drop s cs), ap (λ x. c ∷ x) (take-add s d cs), letter, sign_shape cs, digits_shape (drop s cs) some))
      ] refl
      | false ↦ λ letter h. absurd (omega arith)
    ] refl

abbrev Parts : ℕ → ℕ → ℕ → List ℕ → Type 0
Parts d p e u = GivesUnsigned (with_length (number_kind d p e) (λ k. number_length k d p e)) u

-- the mantissa
mantissa_shape : (u : List ℕ) (d p : ℕ) → (d == 0 && nat_lt p 2) ≡ false → AllOf Digit (take d u) → (0 < d → SomeOf Digit (take d u)) → Point (drop d u) p → IsMantissa (take d u ++ take p (drop d u))
mantissa_shape u d p any digits some (inl none) =
    let one : 0 < d = grind (arith, nat_tests) in
    let same : take d u ++ take p (drop d u) ≡ take d u = ap (λ n. take d u ++ take n (drop d u)) none ∙ append-nil (take d u) in
    subst (λ (x : List ℕ). IsMantissa x) (sym same) (inl (some one))
mantissa_shape u d p any digits some (inr (f, e, fraction, more)) =
    inr (
      take d u,
      f,
      ap (λ x. take d u ++ x) e,
      digits,
      fraction,
      elim (d == 0) as (λ b. (d == 0) ≡ b → SomeOf Digit (take d u) ⊎ SomeOf Digit f) [
        | true ↦ λ h. let many : 1 < p = grind (arith, nat_tests) in inr (more many)
        | false ↦ λ h. let one : 0 < d = grind (arith, nat_tests) in inl (some one)
      ] refl,
    )

double_shape : (u : List ℕ) (d p e : ℕ) → IsMantissa (take d u ++ take p (drop d u)) → IsExponent (take e (drop p (drop d u))) → IsUnsigned Double (take (d + p + e) u)
double_shape u d p e mantissa exponent =
    let front : take (d + p) u ≡ take d u ++ take p (drop d u) = take-add d p u in
    let back : drop (d + p) u ≡ drop p (drop d u) = sym (drop-drop p d u) in
    let whole : take (d + p + e) u ≡ (take d u ++ take p (drop d u)) ++ take e (drop p (drop d u)) = take-add (d + p) e u ∙ ap (λ x. x ++ take e (drop (d + p) u)) front ∙ ap (λ x. (take d u ++ take p (drop d u)) ++ take e x) back in
    (take d u ++ take p (drop d u), take e (drop p (drop d u)), whole, mantissa, exponent)

decimal_shape : (u : List ℕ) (d p : ℕ) → 1 < p → AllOf Digit (take d u) → Point (drop d u) p → IsUnsigned Decimal (take (d + p) u)
decimal_shape u d p many digits (inl none) = absurd (omega arith)
decimal_shape u d p many digits (inr (f, e, fraction, more)) = (take d u, f, take-add d p u ∙ ap (λ x. take d u ++ x) e, digits, more many)

parts_shape : (u : List ℕ) (d p e : ℕ) → AllOf Digit (take d u) → (0 < d → SomeOf Digit (take d u)) → Point (drop d u) p → Exponent (drop p (drop d u)) e → Parts d p e u
parts_shape u d p e digits some point exponent = elim (d == 0 && nat_lt p 2) as (λ b. (d == 0 && nat_lt p 2) ≡ b → GivesUnsigned (with_length (cond b None (cond (nat_lt 0 e) (Some Double) (cond (nat_lt 1 p) (Some Decimal) (Some Integer)))) (λ k. number_length k d p e)) u) [
  | true ↦ λ any. tt
  | false ↦ λ any. elim (nat_lt 0 e) as (λ b. nat_lt 0 e ≡ b → GivesUnsigned (with_length (cond b (Some Double) (cond (nat_lt 1 p) (Some Decimal) (Some Integer))) (λ k. number_length k d p e)) u) [
    | true ↦ λ has. let one : 0 < e = grind (arith, nat_tests) in double_shape u d p e (mantissa_shape u d p any digits some point) (exponent one)
    | false ↦ λ has. elim (nat_lt 1 p) as (λ b. nat_lt 1 p ≡ b → GivesUnsigned (with_length (cond b (Some Decimal) (Some Integer)) (λ k. number_length k d p e)) u) [
      | true ↦ λ h. let many : 1 < p = grind (arith, nat_tests) in decimal_shape u d p many digits point
      | false ↦ λ h. let one : 0 < d = grind (arith, nat_tests) in some one
    ] refl
  ] refl
] refl

unsigned_shape : (u : List ℕ) → GivesUnsigned (unsigned_number u) u
unsigned_shape u =
    let d = run_length Digit u in
    let p = point_length (drop d u) in
    parts_shape u d p (exponent_length (drop p (drop d u))) (run_taken Digit u) (λ h. digits_shape u h) (point_shape (drop d u)) (exponent_shape (drop p (drop d u)))

with_sign : (k : TokenKind) (s t : List ℕ) → IsSign s → IsUnsigned k t → IsNumber k (s ++ t)
with_sign Integer s t sign h = (s, t, refl, sign, h)
with_sign Decimal s t sign (d, f, e, digits, fraction) = (s, d, f, ap (λ x. s ++ x) e, sign, digits, fraction)
with_sign Double s t sign (m, x, e, mantissa, exponent) = (s, m, x, ap (λ y. s ++ y) e, sign, mantissa, exponent)
with_sign _ s t sign h = absurd h

signed_shape : (n : ℕ) (r : Option (TokenKind × ℕ)) (cs : List ℕ) → IsSign (take n cs) → GivesUnsigned r (drop n cs) → GivesNumber (after_sign n r) cs
signed_shape n None cs sign h = tt
signed_shape n (Some p) cs sign h = subst (λ (x : List ℕ). IsNumber p.0 x) (sym (take-add n p.1 cs)) (with_sign p.0 (take n cs) (take p.1 (drop n cs)) sign h)

pub number_shape : (cs : List ℕ) → GivesNumber (number cs) cs
number_shape cs = signed_shape (sign_length cs) (unsigned_number (drop (sign_length cs) cs)) cs (sign_shape cs) (unsigned_shape (drop (sign_length cs) cs))
