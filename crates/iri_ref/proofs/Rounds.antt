-- Steps that remove dot segments come to an end.
use Rattle.std.proofs.Common.{◌≡◌, ℕ, zero, suc, ◌-◌, ◌<◌, ◌≤◌, true, false, ◌||◌, List, [], ◌∷◌, ◌++◌, length, drop, refl, sym, ap, ◌∙◌, cond, eqb, arith, ⊎_elim, length-append, length-drop, codes, bytes_eq}
use Rattle.std.specs.List.{starts_with}
use Rattle.std.proofs.lemmas.Bool.{cond_both, or_cases, eq-eqb, ne_eqb, cases_eq}
use Rattle.std.proofs.lemmas.Slice.Eq.{bytes_eq-Decides}
use Rattle.iri_ref.specs.DotSegments.{Buffers, step, begins_with_segment, segment_len, output_after}
use Rattle.iri_ref.proofs.Prefixes.{starts_with-true}

-- a text that begins with a segment is as long as that
begins-length : (text segment : List ℕ) → begins_with_segment text segment ≡ true → length segment ≤ length text
begins-length text segment h =
    ⊎_elim
    (λ (s : starts_with eqb text (segment ++ 47 ∷ []) ≡ true).
    let whole : text ≡ (segment ++ 47 ∷ []) ++ drop (length (segment ++ 47 ∷ [])) text = starts_with-true text (segment ++ 47 ∷ []) s in
    omega (arith, ap length whole, length-append (segment ++ 47 ∷ []) (drop (length (segment ++ 47 ∷ [])) text), length-append segment (47 ∷ [])))
    (λ (s : bytes_eq text segment ≡ true). omega (arith, ap length ((bytes_eq-Decides text segment).0 s)))
    (or_cases _ _ h)

pub step-shortens : (b : Buffers) → 0 < length b.input → length (step b).input < length b.input
step-shortens b some =
    let P : Buffers → Type 0 = λ a. length a.input < length b.input in
    cond_both (starts_with eqb b.input (codes "../")) _ _ P (λ _. omega (arith, length-drop 3 b.input))
    (λ _. cond_both (starts_with eqb b.input (codes "./")) _ _ P (λ _. omega (arith, length-drop 2 b.input))
    (λ _. cond_both (begins_with_segment b.input (codes "/.")) _ _ P (λ h. omega (arith, length-drop 3 b.input, begins-length b.input (codes "/.") h))
    (λ _. cond_both (begins_with_segment b.input (codes "/..")) _ _ P (λ h. omega (arith, length-drop 4 b.input, begins-length b.input (codes "/..") h))
    (λ _. cond_both (bytes_eq b.input (codes ".") || bytes_eq b.input (codes "..")) _ _ P (λ _. some)
    (λ _. omega (arith, length-drop (segment_len b.input) b.input))))))

-- more steps than the input is long change nothing
pub output_after-more : (n m : ℕ) (b : Buffers) → length b.input ≤ n → length b.input ≤ m → output_after n b ≡ output_after m b
output_after-more zero zero b h k = refl
output_after-more zero (suc m) b h k =
    let none : length b.input ≡ 0 = omega arith in
    sym (ap (λ t. cond t b.output (output_after m (step b))) (eq-eqb _ 0 none))
output_after-more (suc n) zero b h k =
    let none : length b.input ≡ 0 = omega arith in
    ap (λ t. cond t b.output (output_after n (step b))) (eq-eqb _ 0 none)
output_after-more (suc n) (suc m) b h k =
    ⊎_elim
    (λ (e : length b.input ≡ 0). ap (λ t. cond t b.output (output_after n (step b))) (eq-eqb _ 0 e) ∙ sym (ap (λ t. cond t b.output (output_after m (step b))) (eq-eqb _ 0 e)))
    (λ (e : length b.input ≡ 0 → ⊥).
    let less : length (step b).input < length b.input = step-shortens b (omega arith) in
    ap (λ x. cond (eqb (length b.input) 0) b.output x) (output_after-more n m (step b) (omega arith) (omega arith)))
    (cases_eq (length b.input) 0)

-- one step, with as many steps to go as the input is long
pub output_after-step : (b : Buffers) → 0 < length b.input → output_after (length b.input) b ≡ output_after (length (step b).input) (step b)
output_after-step b some =
    let less : length (step b).input < length b.input = step-shortens b some in
    let known : length b.input ≡ suc (length b.input - 1) = omega arith in
    let other : eqb (length b.input) 0 ≡ false = ne_eqb _ 0 (omega arith) in
    ap (λ n. output_after n b) known ∙ ap (λ t. cond t b.output (output_after (length b.input - 1) (step b))) other ∙ output_after-more (length b.input - 1) (length (step b).input) (step b) (omega arith) (omega arith)

-- what code that takes one step knows of the buffers after it
pub shorter-after : (b : Buffers) (input : List ℕ) → 0 < length b.input → input ≡ (step b).input → length input < length b.input
shorter-after b input some e = omega (arith, step-shortens b some, ap length e)

pub output_after-taken : (b : Buffers) (input output whole : List ℕ) → 0 < length b.input → input ≡ (step b).input → output ≡ (step b).output → output_after (length b.input) b ≡ whole → output_after (length input) (record { input = input; output = output }) ≡ whole
output_after-taken b input output whole some e f h =
    let same : ◌≡◌ {A = Buffers} (record { input = input; output = output }) (step b) = λ i. record { input = e i; output = f i } in
    ap (λ (s : Buffers). output_after (length s.input) s) same ∙ sym (output_after-step b some) ∙ h
