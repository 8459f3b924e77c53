-- Texts that have a scheme.
use Rattle.std.proofs.Common.{◌≡◌, ℕ, suc, ◌+◌, ◌<◌, true, false, not, ◌&&◌, ◌||◌, List, [], ◌∷◌, ◌++◌, length, take, sym, ap, ◌∙◌, subst, cond, eqb, arith, ⊎_elim}
use Rattle.std.specs.List.{position_or_len, before_first}
use Rattle.std.proofs.lemmas.Bool.{and_parts, and_from, or_right, cases_Bool, eqb-true, false_from_ne_true}
use Rattle.iri_ref.proofs.Marks.{take-one_more}
use Rattle.iri_ref.specs.Scheme.{has_scheme, reaches_colon, is_letter, is_scheme_char}

colon_inside-reaches : (text : List ℕ) → reaches_colon text ≡ true → position_or_len (λ c. eqb c 58) text < length text
colon_inside-reaches [] h = cc
colon_inside-reaches (x ∷ xs) h =
    elim (eqb x 58) as (λ b. (b || (is_scheme_char x && reaches_colon xs)) ≡ true → cond (not b) (1 + position_or_len (λ c. eqb c 58) xs) 0 < suc (length xs)) [
      | true ↦ λ _. omega arith
      | false ↦ λ (more : (is_scheme_char x && reaches_colon xs) ≡ true).
          let inside : position_or_len (λ c. eqb c 58) xs < length xs = colon_inside-reaches xs ((and_parts (is_scheme_char x) (reaches_colon xs) more).1) in
          omega arith
    ] h

-- a scheme ends before a colon
pub colon_inside : (text : List ℕ) → has_scheme text ≡ true → position_or_len (λ c. eqb c 58) text < length text
colon_inside [] h = cc
colon_inside (x ∷ xs) h =
    let inside : position_or_len (λ c. eqb c 58) xs < length xs = colon_inside-reaches xs ((and_parts (is_letter x) (reaches_colon xs) h).1) in
    elim (eqb x 58) as (λ b. cond (not b) (1 + position_or_len (λ c. eqb c 58) xs) 0 < suc (length xs)) [
      | true ↦ omega arith
      | false ↦ omega arith
    ]

pub no_colon : (text : List ℕ) → position_or_len (λ c. eqb c 58) text ≡ length text → has_scheme text ≡ false
no_colon text e = false_from_ne_true _ (λ h. let inside : position_or_len (λ c. eqb c 58) text < length text = colon_inside text h in absurd (omega arith))

reaches_colon-front : (text rest : List ℕ) → reaches_colon text ≡ true → reaches_colon (before_first (λ c. eqb c 58) text ++ (58 ∷ rest)) ≡ true
reaches_colon-front [] rest h = cc
reaches_colon-front (x ∷ xs) rest h =
    ⊎_elim
    (λ (e : eqb x 58 ≡ true). ap (λ b. reaches_colon (take (cond (not b) (1 + position_or_len (λ c. eqb c 58) xs) 0) (x ∷ xs) ++ (58 ∷ rest))) e)
    (λ (e : eqb x 58 ≡ false).
    let parts = and_parts (is_scheme_char x) (reaches_colon xs) (sym (ap (λ b. b || (is_scheme_char x && reaches_colon xs)) e) ∙ h) in
    let more : reaches_colon (before_first (λ c. eqb c 58) xs ++ (58 ∷ rest)) ≡ true = reaches_colon-front xs rest parts.1 in
    let front : before_first (λ c. eqb c 58) (x ∷ xs) ≡ x ∷ before_first (λ c. eqb c 58) xs =
    ap (λ b. take (cond (not b) (1 + position_or_len (λ c. eqb c 58) xs) 0) (x ∷ xs)) e ∙ take-one_more (position_or_len (λ c. eqb c 58) xs) x xs in
    ap (λ t. reaches_colon (t ++ (58 ∷ rest))) front ∙ or_right _ _ (and_from _ _ parts.0 more))
    (cases_Bool (eqb x 58))

letter-not_colon : (x : ℕ) → is_letter x ≡ true → eqb x 58 ≡ false
letter-not_colon x h = false_from_ne_true _ (λ e. let colon : is_letter 58 ≡ true = subst (λ (c : ℕ). is_letter c ≡ true) (eqb-true x 58 e) h in cc)

-- the scheme of a text and its colon, before any rest, are a text with a scheme
pub has_scheme-front : (text rest : List ℕ) → has_scheme text ≡ true → has_scheme (before_first (λ c. eqb c 58) text ++ (58 ∷ rest)) ≡ true
has_scheme-front [] rest h = cc
has_scheme-front (x ∷ xs) rest h =
    let parts = and_parts (is_letter x) (reaches_colon xs) h in
    let front : before_first (λ c. eqb c 58) (x ∷ xs) ≡ x ∷ before_first (λ c. eqb c 58) xs =
    ap (λ b. take (cond (not b) (1 + position_or_len (λ c. eqb c 58) xs) 0) (x ∷ xs)) (letter-not_colon x parts.0) ∙ take-one_more (position_or_len (λ c. eqb c 58) xs) x xs in
    ap (λ t. has_scheme (t ++ (58 ∷ rest))) front ∙ and_from _ _ parts.0 (reaches_colon-front xs rest parts.1)
