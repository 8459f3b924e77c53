-- What is read as a numeral is what the patterns say.
use Rattle.std.proofs.Common.{◌≡◌, ◌≢◌, ◌↔◌, ◌⊎◌, inl, inr, ℕ, Bool, true, false, not, ◌&&◌, ◌||◌, cond, nat_eq, List, [], ◌∷◌, ◌++◌, length, Option, Some, None, add_comm, add-one, refl, sym, ap, ◌∙◌, arith}
use Rattle.std.specs.Prelude.{codes, bytes_eq}
use Rattle.std.specs.Char.{is_ascii_digit}
use Rattle.std.proofs.lemmas.Slice.Eq.{bytes_eq-Decides}
use Rattle.std.specs.List.{before_first, after_first, position_or_len}
use Rattle.std.proofs.lemmas.Bool.{and_parts, and_from, or_cases, or_left, or_right, eqb-true, ne_eqb, cond-true, cond-false}
use Rattle.std.proofs.lemmas.Bool.Decides.{nat_tests}
use Rattle.literal_order.specs.Datatypes.{is_in_range}
use Rattle.literal_order.specs.Digits.{is_empty, is_negative, are_digits, whole_number, fraction_number}
use Rattle.literal_order.specs.Numerals.{unsigned, whole_digits, fraction_digits, is_integer_form, is_decimal_form, integer_value, integer_reading, decimal_value, decimal_of_parts, decimal_reading, boolean_reading}
use Rattle.literal_order.specs.Forms.{IsSign, AreDigits, IsIntegerForm, IsDecimalForm, IsBooleanForm}
use Rattle.literal_order.specs.declared.datatype.IntegerType.TheVariants.{Integer}
use Rattle.literal_order.specs.declared.literal_value.LiteralReading.{LiteralReading}
use Rattle.literal_order.specs.declared.literal_value.LiteralReading.TheVariants.{IllTyped, Value}
use Rattle.literal_order.specs.declared.literal_value.LiteralValue.TheVariants as values

-- a text is a sign and what follows it
sign_cases : (c : ℕ) (cs : List ℕ) (a b : Bool) → nat_eq c 45 ≡ a → nat_eq c 43 ≡ b → (s : List ℕ) × IsSign s × (c ∷ cs ≡ s ++ cond (a || b) cs (c ∷ cs))
sign_cases c cs true b e f = (c ∷ [], inr (inr (ap (λ d. d ∷ []) (eqb-true c 45 e))), refl)
sign_cases c cs false true e f = (c ∷ [], inr (inl (ap (λ d. d ∷ []) (eqb-true c 43 f))), refl)
sign_cases c cs false false e f = ([], inl refl, refl)

signed_parts : (text : List ℕ) → (s : List ℕ) × IsSign s × (text ≡ s ++ unsigned text)
signed_parts [] = ([], inl refl, refl)
signed_parts (c ∷ cs) = sign_cases c cs (nat_eq c 45) (nat_eq c 43) refl refl

-- no sign in front
abbrev BeginsUnsigned : List ℕ → Type 0
BeginsUnsigned [] = Unit {0}
BeginsUnsigned (c ∷ cs) = (nat_eq c 45 || nat_eq c 43) ≡ false

unsigned_plain : (rest : List ℕ) → BeginsUnsigned rest → unsigned rest ≡ rest
unsigned_plain [] h = refl
unsigned_plain (c ∷ cs) h = cond-false (nat_eq c 45 || nat_eq c 43) cs (c ∷ cs) h

unsigned_after : (s rest : List ℕ) → IsSign s → BeginsUnsigned rest → unsigned (s ++ rest) ≡ rest
unsigned_after s rest (inl e) h = rw e (unsigned_plain rest h)
unsigned_after s rest (inr (inl e)) h = rw e refl
unsigned_after s rest (inr (inr e)) h = rw e refl

digit_unsigned : (c : ℕ) → is_ascii_digit c ≡ true → (nat_eq c 45 || nat_eq c 43) ≡ false
digit_unsigned c h = grind (arith, nat_tests)

digits_unsigned : (ds rest : List ℕ) → AreDigits ds → BeginsUnsigned rest → BeginsUnsigned (ds ++ rest)
digits_unsigned [] rest h k = k
digits_unsigned (c ∷ cs) rest h k = digit_unsigned c (and_parts (is_ascii_digit c) (are_digits cs) h).0

digits_begin : (ds : List ℕ) → AreDigits ds → BeginsUnsigned ds
digits_begin [] h = tt
digits_begin (c ∷ cs) h = digit_unsigned c (and_parts (is_ascii_digit c) (are_digits cs) h).0

-- the point
abbrev is_point : ℕ → Bool
is_point c = nat_eq c 46

point_cons : (c : ℕ) (cs : List ℕ) → is_point c ≡ false → (before_first is_point (c ∷ cs) ≡ c ∷ before_first is_point cs) × (after_first is_point (c ∷ cs) ≡ after_first is_point cs)
point_cons c cs h = (rw (h, add_comm 1 (position_or_len is_point cs), add-one) refl, rw (h, add_comm 1 (position_or_len is_point cs), add-one, add-one) refl)

point_found : (c : ℕ) (cs : List ℕ) → is_point c ≡ true → (before_first is_point (c ∷ cs) ≡ []) × (after_first is_point (c ∷ cs) ≡ cs)
point_found c cs h = (rw h refl, rw h refl)

digit_no_point : (c : ℕ) → is_ascii_digit c ≡ true → is_point c ≡ false
digit_no_point c h = grind (arith, nat_tests)

-- where the first point stands
abbrev PointParts : List ℕ → Type 0
PointParts u = ((u ≡ whole_digits u) × (fraction_digits u ≡ [])) ⊎ (u ≡ whole_digits u ++ 46 ∷ fraction_digits u)

point_step : (c : ℕ) (cs : List ℕ) (b : Bool) → is_point c ≡ b → PointParts cs → PointParts (c ∷ cs)
point_step c cs true e h =
    let found = point_found c cs e in
    inr (rw (found.0, found.1) (ap (λ d. d ∷ cs) (eqb-true c 46 e)))
point_step c cs false e (inl h) =
    let next = point_cons c cs e in
    inl (rw next.0 (ap (λ x. c ∷ x) h.0), rw next.1 h.1)
point_step c cs false e (inr h) =
    let next = point_cons c cs e in
    inr (rw (next.0, next.1) (ap (λ x. c ∷ x) h))

point_parts : (u : List ℕ) → PointParts u
point_parts [] = inl (refl, refl)
point_parts (c ∷ cs) = point_step c cs (is_point c) refl (point_parts cs)

split_with : (w f : List ℕ) → AreDigits w → (whole_digits (w ++ 46 ∷ f) ≡ w) × (fraction_digits (w ++ 46 ∷ f) ≡ f)
split_with [] f h = point_found 46 f refl
split_with (c ∷ cs) f h =
    let digits = and_parts (is_ascii_digit c) (are_digits cs) h in
    let next = point_cons c (cs ++ 46 ∷ f) (digit_no_point c digits.0) in
    let rest = split_with cs f digits.1 in
    (next.0 ∙ ap (λ x. c ∷ x) rest.0, next.1 ∙ rest.1)

split_without : (w : List ℕ) → AreDigits w → (whole_digits w ≡ w) × (fraction_digits w ≡ [])
split_without [] h = (refl, refl)
split_without (c ∷ cs) h =
    let digits = and_parts (is_ascii_digit c) (are_digits cs) h in
    let next = point_cons c cs (digit_no_point c digits.0) in
    let rest = split_without cs digits.1 in
    (next.0 ∙ ap (λ x. c ∷ x) rest.0, next.1 ∙ rest.1)

-- empty or not
filled : (xs : List ℕ) → not (is_empty xs) ≡ true → xs ≢ []
filled [] h e = cc
filled (x ∷ xs) h e = cc

not_empty : (xs : List ℕ) → xs ≢ [] → not (is_empty xs) ≡ true
not_empty [] h = absurd (h refl)
not_empty (x ∷ xs) h = ap not (ne_eqb (length (x ∷ xs)) 0 (λ e. omega arith))

-- what is not ill-typed passed the test of its form
well_formed : (b : Bool) (x : LiteralReading) → cond b x IllTyped ≢ IllTyped → b ≡ true
well_formed true x h = refl
well_formed false x h = absurd (h refl)

decimal_not_ill : (n : Bool) (w f : Option ℕ) → decimal_value n w f ≢ IllTyped
decimal_not_ill n None f e = cc
decimal_not_ill n (Some w) None e = cc
decimal_not_ill n (Some w) (Some f) e = cc

parts_not_ill : (n : Bool) (w f : List ℕ) → is_decimal_form w f ≡ true → decimal_of_parts n w f ≢ IllTyped
parts_not_ill n w f h e = decimal_not_ill n (whole_number w) (fraction_number f) (sym (cond-true (is_decimal_form w f) _ IllTyped h) ∙ e)

decimal_form : (w f : List ℕ) → (w ≢ []) ⊎ (f ≢ []) → AreDigits w → AreDigits f → is_decimal_form w f ≡ true
decimal_form w f (inl h) a b = and_from (_ && are_digits w) (are_digits f) (and_from _ (are_digits w) (or_left (not (is_empty w)) (not (is_empty f)) (not_empty w h)) a) b
decimal_form w f (inr h) a b = and_from (_ && are_digits w) (are_digits f) (and_from _ (are_digits w) (or_right (not (is_empty w)) (not (is_empty f)) (not_empty f h)) a) b

form_parts : (w f : List ℕ) → is_decimal_form w f ≡ true → ((w ≢ []) ⊎ (f ≢ [])) × AreDigits w × AreDigits f
form_parts w f h =
    let both = and_parts ((not (is_empty w) || not (is_empty f)) && are_digits w) (are_digits f) h in
    let first = and_parts (not (is_empty w) || not (is_empty f)) (are_digits w) both.0 in
    (elim (or_cases (not (is_empty w)) (not (is_empty f)) first.0) [ inl k ↦ inl (filled w k) | inr k ↦ inr (filled f k) ], first.1, both.1)

decimal_from : (text : List ℕ) → decimal_reading text ≢ IllTyped → IsDecimalForm text
unfolding decimal_reading
decimal_from text h =
    let w = whole_digits (unsigned text) in
    let f = fraction_digits (unsigned text) in
    let parts = form_parts w f (well_formed _ _ h) in
    let sign = signed_parts text in
    elim (point_parts (unsigned text)) [
      | inl p ↦ (sign.0, w, f, sign.1, parts.1, parts.2, inl (elim parts.0 [ inl k ↦ k | inr k ↦ absurd (k p.1) ], sign.2 ∙ ap (λ x. sign.0 ++ x) p.0))
      | inr p ↦ (sign.0, w, f, sign.1, parts.1, parts.2, inr (parts.0, sign.2 ∙ ap (λ x. sign.0 ++ x) p))
    ]

decimal_to : (text s w f : List ℕ) → IsSign s → AreDigits w → AreDigits f → ((w ≢ []) × (text ≡ s ++ w)) ⊎ (((w ≢ []) ⊎ (f ≢ [])) × (text ≡ s ++ (w ++ 46 ∷ f))) → decimal_reading text ≢ IllTyped
unfolding decimal_reading
decimal_to text s w f sign a b (inl h) =
    let rest : unsigned text ≡ w = ap unsigned h.1 ∙ unsigned_after s w sign (digits_begin w a) in
    let split = split_without w a in
    let whole : whole_digits (unsigned text) ≡ w = ap whole_digits rest ∙ split.0 in
    let fraction : fraction_digits (unsigned text) ≡ [] = ap fraction_digits rest ∙ split.1 in
    let form : is_decimal_form (whole_digits (unsigned text)) (fraction_digits (unsigned text)) ≡ true = rw (whole, fraction) (decimal_form w [] (inl h.0) a refl) in
    parts_not_ill (is_negative text) (whole_digits (unsigned text)) (fraction_digits (unsigned text)) form
decimal_to text s w f sign a b (inr h) =
    let rest : unsigned text ≡ w ++ 46 ∷ f = ap unsigned h.1 ∙ unsigned_after s (w ++ 46 ∷ f) sign (digits_unsigned w (46 ∷ f) a refl) in
    let split = split_with w f a in
    let whole : whole_digits (unsigned text) ≡ w = ap whole_digits rest ∙ split.0 in
    let fraction : fraction_digits (unsigned text) ≡ f = ap fraction_digits rest ∙ split.1 in
    let form : is_decimal_form (whole_digits (unsigned text)) (fraction_digits (unsigned text)) ≡ true = rw (whole, fraction) (decimal_form w f h.0 a b) in
    parts_not_ill (is_negative text) (whole_digits (unsigned text)) (fraction_digits (unsigned text)) form

pub decimal_forms : (text : List ℕ) → (decimal_reading text ≢ IllTyped) ↔ IsDecimalForm text
decimal_forms text = (decimal_from text, λ h. decimal_to text h.0 h.1 h.2 h.3 h.4 h.5 h.6)

integer_not_ill : (n : Bool) (o : Option ℕ) → integer_value Integer n o ≢ IllTyped
unfolding is_in_range
integer_not_ill n None e = cc
integer_not_ill n (Some k) e = cc

integer_from : (text : List ℕ) → integer_reading Integer text ≢ IllTyped → IsIntegerForm text
unfolding integer_reading
integer_from text h =
    let form = well_formed (is_integer_form (unsigned text)) _ h in
    let parts = and_parts (not (is_empty (unsigned text))) (are_digits (unsigned text)) form in
    let sign = signed_parts text in
    (sign.0, unsigned text, sign.1, parts.1, filled (unsigned text) parts.0, sign.2)

integer_to : (text s ds : List ℕ) → IsSign s → AreDigits ds → ds ≢ [] → text ≡ s ++ ds → integer_reading Integer text ≢ IllTyped
unfolding integer_reading
integer_to text s ds sign a filled_ds e k =
    let rest : unsigned text ≡ ds = ap unsigned e ∙ unsigned_after s ds sign (digits_begin ds a) in
    let form : is_integer_form (unsigned text) ≡ true = rw rest (and_from (not (is_empty ds)) (are_digits ds) (not_empty ds filled_ds) a) in
    integer_not_ill (is_negative text) (whole_number (unsigned text)) (sym (cond-true (is_integer_form (unsigned text)) _ IllTyped form) ∙ k)

pub integer_forms : (text : List ℕ) → (integer_reading Integer text ≢ IllTyped) ↔ IsIntegerForm text
integer_forms text = (integer_from text, λ h. integer_to text h.0 h.1 h.2 h.3 h.4 h.5)

-- booleans
either : (text a b : List ℕ) → (bytes_eq text a || bytes_eq text b) ≡ true → (text ≡ a) ⊎ (text ≡ b)
either text a b h = elim (or_cases (bytes_eq text a) (bytes_eq text b) h) [ inl e ↦ inl ((bytes_eq-Decides text a).0 e) | inr e ↦ inr ((bytes_eq-Decides text b).0 e) ]

by_tests : (text : List ℕ) (a b : Bool) → (bytes_eq text (codes "true") || bytes_eq text (codes "1")) ≡ a → (bytes_eq text (codes "false") || bytes_eq text (codes "0")) ≡ b
    → (cond a (Value (values.Boolean true)) (cond b (Value (values.Boolean false)) IllTyped) ≢ IllTyped) → IsBooleanForm text
by_tests text true b e f h = inl (either text (codes "true") (codes "1") e)
by_tests text false true e f h = inr (either text (codes "false") (codes "0") f)
by_tests text false false e f h = absurd (h refl)

formed : (text : List ℕ) → IsBooleanForm text → boolean_reading text ≢ IllTyped
unfolding boolean_reading
formed text (inl (inl e)) k = let same : boolean_reading (codes "true") ≡ IllTyped = ap boolean_reading (sym e) ∙ k in cc
formed text (inl (inr e)) k = let same : boolean_reading (codes "1") ≡ IllTyped = ap boolean_reading (sym e) ∙ k in cc
formed text (inr (inl e)) k = let same : boolean_reading (codes "false") ≡ IllTyped = ap boolean_reading (sym e) ∙ k in cc
formed text (inr (inr e)) k = let same : boolean_reading (codes "0") ≡ IllTyped = ap boolean_reading (sym e) ∙ k in cc

pub boolean_forms : (text : List ℕ) → (boolean_reading text ≢ IllTyped) ↔ IsBooleanForm text
unfolding boolean_reading
boolean_forms text = (
  λ h. by_tests text (bytes_eq text (codes "true") || bytes_eq text (codes "1")) (bytes_eq text (codes "false") || bytes_eq text (codes "0")) refl refl h,
  formed text,
)
