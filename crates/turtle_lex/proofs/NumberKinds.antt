-- A number has one kind.
use Rattle.std.proofs.Common.{◌≡◌, ◌∙◌, ℕ, Bool, true, false, cond, ◌==◌, ◌||◌, List, [], ◌∷◌, ◌++◌, refl, sym, ap, subst, inl, inr}
use Rattle.turtle_lex.specs.declared.token.TokenKind.{TokenKind}
use Rattle.turtle_lex.specs.declared.token.TokenKind.TheVariants.{Integer, Decimal, Double}
use Rattle.rdf_lexical.specs.declared.classes.Class.{Class}
use Rattle.rdf_lexical.specs.declared.classes.Class.TheVariants.{Sign, Digit}
use Rattle.rdf_lexical.specs.Classes.{holds, begins_with}
use Rattle.rdf_lexical.specs.Productions.{AllOf}
use Rattle.turtle_lex.specs.Productions.{IsSign, IsInteger, IsDecimal, IsDouble}
use Rattle.rdf_lexical.proofs.Runs.{apart}
use Rattle.turtle_lex.proofs.NumberTexts.{IsNumber}

-- whether some character meets a test
abbrev some_of : (ℕ → Bool) → List ℕ → Bool
some_of test [] = false
some_of test (c ∷ cs) = test c || some_of test cs

some_right : (test : ℕ → Bool) (a b : List ℕ) → some_of test b ≡ true → some_of test (a ++ b) ≡ true
some_right test [] b h = h
some_right test (c ∷ a) b h = elim (test c) as (λ v. (v || some_of test (a ++ b)) ≡ true) [ true ↦ refl | false ↦ some_right test a b h ]

none_of : (test : ℕ → Bool) (a b : List ℕ) → some_of test a ≡ false → some_of test b ≡ false → some_of test (a ++ b) ≡ false
none_of test [] b g h = h
none_of test (c ∷ a) b g h = elim (test c) as (λ v. (v || some_of test a) ≡ false → (v || some_of test (a ++ b)) ≡ false) [ true ↦ λ e. e | false ↦ λ e. none_of test a b e h ] g

-- the letter of an exponent
abbrev is_letter : ℕ → Bool
is_letter c = c == 101 || c == 69

other_letter : (k : Class) (c : ℕ) → holds k c ≡ true → holds k 101 ≡ false → holds k 69 ≡ false → is_letter c ≡ false
other_letter k c h small large = ap (λ b. b || c == 69) (apart (holds k) c 101 h small) ∙ apart (holds k) c 69 h large

abbrev is_dot : ℕ → Bool
is_dot c = c == 46

digits_none : (test : ℕ → Bool) (d : List ℕ) → ((c : ℕ) → holds Digit c ≡ true → test c ≡ false) → AllOf Digit d → some_of test d ≡ false
digits_none test [] never all = refl
digits_none test (c ∷ d) never all = ap (λ b. b || some_of test d) (never c all.0) ∙ digits_none test d never all.1

sign_none : (test : ℕ → Bool) (s : List ℕ) → ((c : ℕ) → holds Sign c ≡ true → test c ≡ false) → IsSign s → some_of test s ≡ false
sign_none test s never (inl e) = ap (some_of test) e
sign_none test s never (inr (c, e, h)) = ap (some_of test) e ∙ ap (λ b. b || false) (never c h)

digit_no_letter : (c : ℕ) → holds Digit c ≡ true → is_letter c ≡ false
digit_no_letter c h = other_letter Digit c h refl refl

sign_no_letter : (c : ℕ) → holds Sign c ≡ true → is_letter c ≡ false
sign_no_letter c h = other_letter Sign c h refl refl

digit_no_dot : (c : ℕ) → holds Digit c ≡ true → is_dot c ≡ false
digit_no_dot c h = apart (holds Digit) c 46 h refl

sign_no_dot : (c : ℕ) → holds Sign c ≡ true → is_dot c ≡ false
sign_no_dot c h = apart (holds Sign) c 46 h refl

-- the kind by the characters
abbrev kind_by : List ℕ → TokenKind
kind_by t = cond (some_of is_letter t) Double (cond (some_of is_dot t) Decimal Integer)

by_tests : (t : List ℕ) (a b : Bool) → some_of is_letter t ≡ a → some_of is_dot t ≡ b → kind_by t ≡ cond a Double (cond b Decimal Integer)
by_tests t a b g h = ap (λ x. cond x Double (cond (some_of is_dot t) Decimal Integer)) g ∙ ap (λ x. cond a Double (cond x Decimal Integer)) h

integer_kind : (t : List ℕ) → IsInteger t → kind_by t ≡ Integer
integer_kind t (s, d, e, sign, digits) =
    let letter = none_of is_letter s d (sign_none is_letter s sign_no_letter sign) (digits_none is_letter d digit_no_letter digits.1) in
    let dot = none_of is_dot s d (sign_none is_dot s sign_no_dot sign) (digits_none is_dot d digit_no_dot digits.1) in
    by_tests t false false (ap (some_of is_letter) e ∙ letter) (ap (some_of is_dot) e ∙ dot)

decimal_kind : (t : List ℕ) → IsDecimal t → kind_by t ≡ Decimal
decimal_kind t (s, d, f, e, sign, digits, fraction) =
    let rest = none_of is_letter d (46 ∷ f) (digits_none is_letter d digit_no_letter digits) (digits_none is_letter f digit_no_letter fraction.1) in
    let letter = none_of is_letter s (d ++ 46 ∷ f) (sign_none is_letter s sign_no_letter sign) rest in
    let dot = some_right is_dot s (d ++ 46 ∷ f) (some_right is_dot d (46 ∷ f) refl) in
    by_tests t false true (ap (some_of is_letter) e ∙ letter) (ap (some_of is_dot) e ∙ dot)

double_kind : (t : List ℕ) → IsDouble t → kind_by t ≡ Double
double_kind t (s, m, x, e, sign, mantissa, (c, v, d, f, letter, more, digits)) =
    let begun : some_of is_letter x ≡ true = ap (some_of is_letter) f ∙ ap (λ b. b || some_of is_letter (v ++ d)) letter in
    let whole : some_of is_letter t ≡ true = ap (some_of is_letter) e ∙ some_right is_letter s (m ++ x) (some_right is_letter m x begun) in
    ap (λ b. cond b Double (cond (some_of is_dot t) Decimal Integer)) whole

number_kind_by : (k : TokenKind) (t : List ℕ) → IsNumber k t → kind_by t ≡ k
number_kind_by Integer t h = integer_kind t h
number_kind_by Decimal t h = decimal_kind t h
number_kind_by Double t h = double_kind t h
number_kind_by _ t h = absurd h

pub one_kind : (k l : TokenKind) (t : List ℕ) → IsNumber k t → IsNumber l t → k ≡ l
one_kind k l t g h = sym (number_kind_by k t g) ∙ number_kind_by l t h

-- a number has a digit, and the dot alone has none
digit_in : (d : List ℕ) → begins_with Digit d ≡ true → some_of (holds Digit) d ≡ true
digit_in [] h = cc
digit_in (c ∷ d) h = ap (λ b. b || some_of (holds Digit) d) h

abbrev HasDigit : List ℕ → Type 0
HasDigit t = some_of (holds Digit) t ≡ true

number_digit : (k : TokenKind) (t : List ℕ) → IsNumber k t → HasDigit t
number_digit Integer t (s, d, e, sign, digits) = subst (λ (x : List ℕ). HasDigit x) (sym e) (some_right (holds Digit) s d (digit_in d digits.0))
number_digit Decimal t (s, d, f, e, sign, digits, fraction) = subst (λ (x : List ℕ). HasDigit x) (sym e) (some_right (holds Digit) s (d ++ 46 ∷ f) (some_right (holds Digit) d (46 ∷ f) (digit_in f fraction.0)))
number_digit Double t (s, m, x, e, sign, mantissa, (c, v, d, f, letter, more, digits)) =
    let end : HasDigit x = subst (λ (y : List ℕ). HasDigit y) (sym f) (some_right (holds Digit) (c ∷ v) d (digit_in d digits.0)) in
    subst (λ (y : List ℕ). HasDigit y) (sym e) (some_right (holds Digit) s (m ++ x) (some_right (holds Digit) m x end))
number_digit _ t h = absurd h

pub no_dot : (k : TokenKind) → IsNumber k (46 ∷ []) → ⊥
no_dot k h = let some = number_digit k (46 ∷ []) h in cc
