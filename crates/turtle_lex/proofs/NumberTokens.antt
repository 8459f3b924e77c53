-- The longest number reaches over each INTEGER, DECIMAL and DOUBLE.
use Rattle.std.proofs.Common.{◌≡◌, ◌∙◌, nat_lt, ℕ, suc, ◌+◌, ◌<◌, ◌≤◌, true, false, cond, ◌==◌, ◌||◌, ◌&&◌, List, [], ◌∷◌, ◌++◌, length, drop, Option, Some, None, refl, sym, ap, subst, arith, append_assoc, length-append, ◌⊎◌, inl, inr}
use Rattle.std.proofs.lemmas.Bool.Decides.{nat_tests}
use Rattle.std.proofs.Math.Seq.{drop-append_seam}
use Rattle.turtle_lex.specs.declared.token.TokenKind.{TokenKind}
use Rattle.turtle_lex.specs.declared.token.TokenKind.TheVariants.{Integer, Decimal, Double}
use Rattle.rdf_lexical.specs.declared.classes.Class.TheVariants.{Sign, Digit}
use Rattle.rdf_lexical.specs.Classes.{holds, begins_with, run_length}
use Rattle.turtle_lex.specs.Numbers.{sign_length, point_length, signed_digits, exponent_length, number_kind, number_length, with_length, unsigned_number, after_sign, number}
use Rattle.rdf_lexical.specs.Productions.{AllOf, SomeOf}
use Rattle.turtle_lex.specs.Productions.{IsSign, IsInteger, IsDecimal, IsExponent, IsMantissa, IsDouble}
use Rattle.rdf_lexical.proofs.Runs.{apart, run_all, run_exact}

-- a number of at least so many characters
abbrev pub NumberReaches : Option (TokenKind × ℕ) → ℕ → Type 0
NumberReaches None n = ⊥
NumberReaches (Some p) n = n ≤ p.1

-- a digit is no sign
no_sign : (t u : List ℕ) → begins_with Digit t ≡ true → begins_with Sign (t ++ u) ≡ false
no_sign [] u h = cc
no_sign (c ∷ t) u h = let plus = apart (holds Digit) c 43 h refl in let minus = apart (holds Digit) c 45 h refl in rw (plus, minus) refl

pub sign_of : (s t : List ℕ) → IsSign s → begins_with Sign t ≡ false → sign_length (s ++ t) ≡ length s
sign_of s t (inl e) plain = subst (λ (x : List ℕ). sign_length (x ++ t) ≡ length x) (sym e) (ap (λ b. cond b 1 0) plain)
sign_of s t (inr (c, e, h)) plain = subst (λ (x : List ℕ). sign_length (x ++ t) ≡ length x) (sym e) (ap (λ b. cond b 1 0) h)

further : (n : ℕ) (r : Option (TokenKind × ℕ)) (m : ℕ) → NumberReaches r m → NumberReaches (after_sign n r) (n + m)
further n None m h = h
further n (Some p) m h = omega arith

behind_sign : (s t : List ℕ) (m : ℕ) → IsSign s → begins_with Sign t ≡ false → NumberReaches (unsigned_number t) m → NumberReaches (number (s ++ t)) (length s + m)
behind_sign s t m is plain h =
    let e = sign_of s t is plain in
    let d : drop (sign_length (s ++ t)) (s ++ t) ≡ t = ap (λ n. drop n (s ++ t)) e ∙ drop-append_seam s t in
    let same : number (s ++ t) ≡ after_sign (length s) (unsigned_number t) = ap (λ n. after_sign n (unsigned_number (drop (sign_length (s ++ t)) (s ++ t)))) e ∙ ap (λ x. after_sign (length s) (unsigned_number x)) d in
    subst (λ r. NumberReaches r (length s + m)) (sym same) (further (length s) (unsigned_number t) m h)

abbrev Made : ℕ → ℕ → ℕ → Option (TokenKind × ℕ)
Made d p e = with_length (number_kind d p e) (λ k. number_length k d p e)

abbrev Kinds : ℕ → ℕ → Option TokenKind
Kinds p e = cond (nat_lt 0 e) (Some Double) (cond (nat_lt 1 p) (Some Decimal) (Some Integer))

some_kind : (d p e : ℕ) → (d == 0 && nat_lt p 2) ≡ false → number_kind d p e ≡ Kinds p e
some_kind d p e h = ap (λ b. cond b None (Kinds p e)) h

of_digits : (d p e m : ℕ) → 0 < d → m ≤ d → NumberReaches (Made d p e) m
of_digits d p e m some h =
    let any : (d == 0 && nat_lt p 2) ≡ false = grind (arith, nat_tests) in
    subst (λ k. NumberReaches (with_length k (λ k. number_length k d p e)) m) (sym (some_kind d p e any))
    (elim (nat_lt 0 e) as (λ b. NumberReaches (with_length (cond b (Some Double) (cond (nat_lt 1 p) (Some Decimal) (Some Integer))) (λ k. number_length k d p e)) m) [
      | true ↦ omega arith
      | false ↦ elim (nat_lt 1 p) as (λ b. NumberReaches (with_length (cond b (Some Decimal) (Some Integer)) (λ k. number_length k d p e)) m) [
        | true ↦ omega arith
        | false ↦ h
      ]
    ])

-- with a digit behind the dot
of_point : (d p e m : ℕ) → 1 < p → m ≤ d + p → NumberReaches (Made d p e) m
of_point d p e m some h =
    let any : (d == 0 && nat_lt p 2) ≡ false = grind (arith, nat_tests) in
    let more : nat_lt 1 p ≡ true = grind (arith, nat_tests) in
    let kind : number_kind d p e ≡ cond (nat_lt 0 e) (Some Double) (Some Decimal) = some_kind d p e any ∙ ap (λ b. cond (nat_lt 0 e) (Some Double) (cond b (Some Decimal) (Some Integer))) more in
    subst (λ k. NumberReaches (with_length k (λ k. number_length k d p e)) m) (sym kind) (elim (nat_lt 0 e) as (λ b. NumberReaches (with_length (cond b (Some Double) (Some Decimal)) (λ k. number_length k d p e)) m) [
      | true ↦ omega arith
      | false ↦ h
    ])

-- with an exponent
of_exponent : (d p e : ℕ) → 0 < e → (d == 0 && nat_lt p 2) ≡ false → (m : ℕ) → m ≤ d + p + e → NumberReaches (Made d p e) m
of_exponent d p e some any m h =
    let more : nat_lt 0 e ≡ true = grind (arith, nat_tests) in
    let kind : number_kind d p e ≡ Some Double = some_kind d p e any ∙ ap (λ b. cond b (Some Double) (cond (nat_lt 1 p) (Some Decimal) (Some Integer))) more in
    subst (λ k. NumberReaches (with_length k (λ k. number_length k d p e)) m) (sym kind) h

some_digit : (d : List ℕ) → begins_with Digit d ≡ true → 0 < length d
some_digit [] h = cc
some_digit (c ∷ d) h = omega arith

begins_front : (t u : List ℕ) → begins_with Digit t ≡ true → begins_with Digit (t ++ u) ≡ true
begins_front [] u h = cc
begins_front (c ∷ t) u h = h

pub integer_reached : (t u : List ℕ) → IsInteger t → NumberReaches (number (t ++ u)) (length t)
integer_reached t u (s, d, e, sign, digits) =
    let whole : t ++ u ≡ s ++ (d ++ u) = ap (λ x. x ++ u) e ∙ append_assoc s d u in
    let size : length t ≡ length s + length d = ap length e ∙ length-append s d in
    let run = run_all Digit d u digits.1 in
    let some = some_digit d digits.0 in
    let p = point_length (drop (run_length Digit (d ++ u)) (d ++ u)) in
    let x = exponent_length (drop p (drop (run_length Digit (d ++ u)) (d ++ u))) in
    let reached : NumberReaches (unsigned_number (d ++ u)) (length d) = of_digits (run_length Digit (d ++ u)) p x (length d) (omega arith) (omega arith) in
    subst (λ (x : List ℕ). NumberReaches (number x) (length t)) (sym whole) (subst (λ n. NumberReaches (number (s ++ (d ++ u))) n) (sym size) (behind_sign s (d ++ u) (length d) sign (no_sign d u digits.0) reached))

-- what a dot follows begins with no sign
no_sign_before_dot : (d u : List ℕ) → AllOf Digit d → begins_with Sign (d ++ 46 ∷ u) ≡ false
no_sign_before_dot [] u h = refl
no_sign_before_dot (c ∷ d) u h = no_sign (c ∷ d) (46 ∷ u) h.0

-- the digits and the dot at the beginning, and what follows the dot
at_dot : (d u : List ℕ) → AllOf Digit d → unsigned_number (d ++ 46 ∷ u) ≡ (let p = suc (run_length Digit u) in Made (length d) p (exponent_length (drop p (46 ∷ u))))
at_dot d u h =
    let e : run_length Digit (d ++ 46 ∷ u) ≡ length d = run_exact Digit d (46 ∷ u) h refl in
    let rest : drop (length d) (d ++ 46 ∷ u) ≡ 46 ∷ u = drop-append_seam d (46 ∷ u) in
    ap (λ n. Made n (point_length (drop n (d ++ 46 ∷ u))) (exponent_length (drop (point_length (drop n (d ++ 46 ∷ u))) (drop n (d ++ 46 ∷ u))))) e
    ∙ ap (λ r. Made (length d) (point_length r) (exponent_length (drop (point_length r) r))) rest

pub decimal_reached : (t u : List ℕ) → IsDecimal t → NumberReaches (number (t ++ u)) (length t)
decimal_reached t u (s, d, f, e, sign, digits, fraction) =
    let whole : t ++ u ≡ s ++ (d ++ 46 ∷ (f ++ u)) = ap (λ x. x ++ u) e ∙ append_assoc s (d ++ 46 ∷ f) u ∙ ap (λ x. s ++ x) (append_assoc d (46 ∷ f) u) in
    let size : length t ≡ length s + (length d + suc (length f)) = ap length e ∙ length-append s (d ++ 46 ∷ f) ∙ ap (λ n. length s + n) (length-append d (46 ∷ f)) in
    let run = run_all Digit f u fraction.1 in
    let some = some_digit f fraction.0 in
    let p = suc (run_length Digit (f ++ u)) in
    let x = exponent_length (drop p (46 ∷ (f ++ u))) in
    let reached : NumberReaches (unsigned_number (d ++ 46 ∷ (f ++ u))) (length d + suc (length f)) = subst (λ r. NumberReaches r (length d + suc (length f))) (sym (at_dot d (f ++ u) digits)) (of_point (length d) p x (length d + suc (length f)) (omega arith) (omega arith)) in
    subst (λ (x : List ℕ). NumberReaches (number x) (length t)) (sym whole) (subst (λ n. NumberReaches (number (s ++ (d ++ 46 ∷ (f ++ u)))) n) (sym size) (behind_sign s (d ++ 46 ∷ (f ++ u)) (length d + suc (length f)) sign (no_sign_before_dot d (f ++ u) digits) reached))

-- the exponent
signed_reached : (s d u : List ℕ) → IsSign s → SomeOf Digit d → length s + length d ≤ signed_digits (s ++ (d ++ u))
signed_reached s d u sign digits =
    let run = run_all Digit d u digits.1 in
    let some = some_digit d digits.0 in
    let e = sign_of s (d ++ u) sign (no_sign d u digits.0) in
    let rest : drop (sign_length (s ++ (d ++ u))) (s ++ (d ++ u)) ≡ d ++ u = ap (λ n. drop n (s ++ (d ++ u))) e ∙ drop-append_seam s (d ++ u) in
    let any : (run_length Digit (d ++ u) == 0) ≡ false = grind (arith, nat_tests) in
    let value : signed_digits (s ++ (d ++ u)) ≡ length s + run_length Digit (d ++ u) =
    ap (λ r. cond (run_length Digit r == 0) 0 (sign_length (s ++ (d ++ u)) + run_length Digit r)) rest
    ∙ ap (λ b. cond b 0 (sign_length (s ++ (d ++ u)) + run_length Digit (d ++ u))) any
    ∙ ap (λ n. n + run_length Digit (d ++ u)) e in
    omega arith

letter_no_digit : (c : ℕ) → (c == 101 || c == 69) ≡ true → holds Digit c ≡ false
letter_no_digit c h = elim (holds Digit c) as (λ b. holds Digit c ≡ b → b ≡ false) [
  | true ↦ λ e. let small = apart (holds Digit) c 101 e refl in let capital = apart (holds Digit) c 69 e refl in let both : (c == 101 || c == 69) ≡ false = rw (small, capital) refl in cc
  | false ↦ λ e. refl
] refl

exponent_reached : (x u : List ℕ) → IsExponent x → (length x ≤ exponent_length (x ++ u)) × (0 < exponent_length (x ++ u)) × (begins_with Digit (x ++ u) ≡ false) × (point_length (x ++ u) ≡ 0)
exponent_reached x u (c, s, d, e, letter, sign, digits) =
    let whole : x ++ u ≡ c ∷ (s ++ (d ++ u)) = ap (λ y. y ++ u) e ∙ ap (λ y. c ∷ y) (append_assoc s d u) in
    let size : length x ≡ suc (length s + length d) = ap length e ∙ ap suc (length-append s d) in
    let some = some_digit d digits.0 in
    let more = signed_reached s d u sign digits in
    let any : (signed_digits (s ++ (d ++ u)) == 0) ≡ false = grind (arith, nat_tests) in
    let value : exponent_length (c ∷ (s ++ (d ++ u))) ≡ suc (signed_digits (s ++ (d ++ u))) =
    ap (λ b. cond b (cond (signed_digits (s ++ (d ++ u)) == 0) 0 (suc (signed_digits (s ++ (d ++ u))))) 0) letter
    ∙ ap (λ b. cond b 0 (suc (signed_digits (s ++ (d ++ u))))) any in
    let length_is : exponent_length (x ++ u) ≡ suc (signed_digits (s ++ (d ++ u))) = ap exponent_length whole ∙ value in
    let no_digit : begins_with Digit (c ∷ (s ++ (d ++ u))) ≡ false = letter_no_digit c letter in
    let dotless : (c == 46) ≡ false = apart (λ n. n == 101 || n == 69) c 46 letter refl in
    (omega arith, omega arith, ap (begins_with Digit) whole ∙ no_digit, ap point_length whole ∙ ap (λ b. cond b (suc (run_length Digit (s ++ (d ++ u)))) 0) dotless)

some_either : (d f : List ℕ) → SomeOf Digit d ⊎ SomeOf Digit f → (length d == 0 && nat_lt (suc (length f)) 2) ≡ false
some_either d f (inl h) = let one = some_digit d h.0 in grind (arith, nat_tests)
some_either d f (inr h) = let one = some_digit f h.0 in grind (arith, nat_tests)

pub at_least : (r : Option (TokenKind × ℕ)) (n m : ℕ) → NumberReaches r n → m ≤ n → NumberReaches r m
at_least None n m h le = h
at_least (Some p) n m h le = omega arith

mantissa_reached : (m r : List ℕ) → IsMantissa m → begins_with Digit r ≡ false → point_length r ≡ 0 → 0 < exponent_length r → NumberReaches (unsigned_number (m ++ r)) (length m + exponent_length r)
mantissa_reached m r (inl digits) no_digit dotless some =
    let run = run_exact Digit m r digits.1 no_digit in
    let rest = drop-append_seam m r in
    let one = some_digit m digits.0 in
    let any : (length m == 0 && nat_lt 0 2) ≡ false = grind (arith, nat_tests) in
    let value : unsigned_number (m ++ r) ≡ Made (length m) 0 (exponent_length r) =
    ap (λ n. Made n (point_length (drop n (m ++ r))) (exponent_length (drop (point_length (drop n (m ++ r))) (drop n (m ++ r))))) run
    ∙ ap (λ y. Made (length m) (point_length y) (exponent_length (drop (point_length y) y))) rest
    ∙ ap (λ n. Made (length m) n (exponent_length (drop n r))) dotless in
    subst (λ x. NumberReaches x (length m + exponent_length r)) (sym value) (of_exponent (length m) 0 (exponent_length r) some any (length m + exponent_length r) (omega arith))
mantissa_reached m r (inr (d, f, e, digits, fraction, either)) no_digit dotless some =
    let whole : m ++ r ≡ d ++ 46 ∷ (f ++ r) = ap (λ x. x ++ r) e ∙ append_assoc d (46 ∷ f) r in
    let size : length m ≡ length d + suc (length f) = ap length e ∙ length-append d (46 ∷ f) in
    let run : run_length Digit (f ++ r) ≡ length f = run_exact Digit f r fraction no_digit in
    let rest : drop (suc (length f)) (46 ∷ (f ++ r)) ≡ r = drop-append_seam f r in
    let any : (length d == 0 && nat_lt (suc (length f)) 2) ≡ false = some_either d f either in
    let value : unsigned_number (m ++ r) ≡ Made (length d) (suc (length f)) (exponent_length r) =
    ap unsigned_number whole ∙ at_dot d (f ++ r) digits
    ∙ ap (λ n. Made (length d) (suc n) (exponent_length (drop (suc n) (46 ∷ (f ++ r))))) run
    ∙ ap (λ y. Made (length d) (suc (length f)) (exponent_length y)) rest in
    subst (λ x. NumberReaches x (length m + exponent_length r)) (sym value) (of_exponent (length d) (suc (length f)) (exponent_length r) some any (length m + exponent_length r) (omega arith))

no_sign_before : (m r : List ℕ) → IsMantissa m → begins_with Sign (m ++ r) ≡ false
no_sign_before m r (inl digits) = no_sign m r digits.0
no_sign_before m r (inr (d, f, e, digits, fraction, either)) =
    ap (begins_with Sign) (ap (λ x. x ++ r) e ∙ append_assoc d (46 ∷ f) r) ∙ no_sign_before_dot d (f ++ r) digits

pub double_reached : (t u : List ℕ) → IsDouble t → NumberReaches (number (t ++ u)) (length t)
double_reached t u (s, m, x, e, sign, mantissa, exponent) =
    let whole : t ++ u ≡ s ++ (m ++ (x ++ u)) = ap (λ y. y ++ u) e ∙ append_assoc s (m ++ x) u ∙ ap (λ y. s ++ y) (append_assoc m x u) in
    let size : length t ≡ length s + (length m + length x) = ap length e ∙ length-append s (m ++ x) ∙ ap (λ n. length s + n) (length-append m x) in
    let facts = exponent_reached x u exponent in
    let reached = mantissa_reached m (x ++ u) mantissa facts.2 facts.3 facts.1 in
    let more = behind_sign s (m ++ (x ++ u)) (length m + exponent_length (x ++ u)) sign (no_sign_before m (x ++ u) mantissa) reached in
    subst (λ (y : List ℕ). NumberReaches (number y) (length t)) (sym whole) (at_least (number (s ++ (m ++ (x ++ u)))) (length s + (length m + exponent_length (x ++ u))) (length t) more (omega (arith, facts.0)))
