-- The first and the last place of a character in a text.
use Rattle.std.proofs.Common.{◌≡◌, ℕ, zero, suc, ◌+◌, ◌-◌, ◌<◌, ◌≤◌, Bool, true, false, not, ◌||◌, List, [], ◌∷◌, ◌++◌, length, get_or, take, drop, refl, sym, ap, ◌∙◌, subst, cond, eqb, ltb, arith, add-one, add_comm, IsCharBoundary, MatchOption, position, Option, Some, None, ⊎_elim, ◌⊎◌, inl, inr, add-zero, length-append}
use Rattle.std.specs.List.{position_or_len, list_any, before_first, after_first, before_last, suffix_len}
use Rattle.std.specs.Option.{unwrap_or}
use Rattle.std.specs.Str.Pattern.{RFindsChar}
use Rattle.std.proofs.lemmas.Bool.{cases_lt, eqb-true, eqb-false, ne_eqb, eq-eqb, lt-ltb, le-ltb, ltb-false, cond_both, cases_Bool, or_from, or_parts, true_from_ne_false}
use Rattle.std.proofs.lemmas.List.{take_all, take_more, take-append-le, take-append-drop, length-drop}
use Rattle.std.proofs.lemmas.List.Folds.{list_any-append}
use Rattle.std.proofs.Math.Seq.{get_or-append-add}
use Rattle.iri_ref.specs.Laws.{Lacks}
use Rattle.std.proofs.Math.Nat.{add-sub_cancel, sub-zero}
use Rattle.std.proofs.lemmas.Bool.Decides.{nat_tests}
use Rattle.std.proofs.lemmas.List.Sums.{prefix_len-le-length, passes_at_first, split_at_first, suffix_len_is}
use Rattle.std.proofs.lemmas.Str.Pattern.{rfind_char}
use Rattle.iri_ref.specs.Resolution.{directory}
use Rattle.std.proofs.lemmas.Str.{IsCharBoundary-before_ascii, IsCharBoundary-end}

position-le-length : (p : ℕ → Bool) (text : List ℕ) → position_or_len p text ≤ length text
position-le-length p text = prefix_len-le-length (λ c. not (p c)) text

-- some element passes exactly where the first place that passes is inside
pub list_any-position : (p : ℕ → Bool) (text : List ℕ) → list_any p text ≡ ltb (position_or_len p text) (length text)
list_any-position p [] = refl
list_any-position p (x ∷ xs) =
    let more : list_any p xs ≡ ltb (position_or_len p xs) (length xs) = list_any-position p xs in
    elim (p x) as (λ b. (b || list_any p xs) ≡ ltb (cond (not b) (1 + position_or_len p xs) 0) (suc (length xs))) [
      | true ↦ sym (lt-ltb _ _ (omega arith))
      | false ↦ more ∙ grind (arith, nat_tests)
    ]

-- no element passes where the first place that passes is past the end
pub list_any-none : (p : ℕ → Bool) (text : List ℕ) → position_or_len p text ≡ length text → list_any p text ≡ false
list_any-none p text e = list_any-position p text ∙ grind (arith, nat_tests)

pub list_any-some : (p : ℕ → Bool) (text : List ℕ) → position_or_len p text < length text → list_any p text ≡ true
list_any-some p text l = list_any-position p text ∙ grind (arith, nat_tests)

-- a text may be cut before its first ASCII character of a kind
pub IsCharBoundary-position : (c : ℕ) (text : List ℕ) → c < 128 → IsCharBoundary text (position_or_len (λ d. eqb d c) text)
IsCharBoundary-position c text low =
    let inside : position_or_len (λ d. eqb d c) text ≤ length text = position-le-length (λ d. eqb d c) text in
    ⊎_elim
    (λ (l : position_or_len (λ d. eqb d c) text < length text).
    let at : get_or text (position_or_len (λ d. eqb d c) text) 0 ≡ c = eqb-true _ c (passes_at_first (λ d. eqb d c) text 0 l) in
    IsCharBoundary-before_ascii text _ l (omega arith))
    (λ (l : length text ≤ position_or_len (λ d. eqb d c) text).
    let same : position_or_len (λ d. eqb d c) text ≡ length text = omega arith in
    subst (λ (n : ℕ). IsCharBoundary text n) (sym same) (IsCharBoundary-end text))
    (cases_lt (position_or_len (λ d. eqb d c) text) (length text))

-- the parts round the first such character are the text
pub split_at_character : (c : ℕ) (text : List ℕ) → position_or_len (λ d. eqb d c) text < length text → text ≡ before_first (λ d. eqb d c) text ++ (c ∷ after_first (λ d. eqb d c) text)
split_at_character c text l =
    let at : get_or text (position_or_len (λ d. eqb d c) text) 0 ≡ c = eqb-true _ c (passes_at_first (λ d. eqb d c) text 0 l) in
    split_at_first (λ d. eqb d c) text 0 l ∙ ap (λ d. before_first (λ d. eqb d c) text ++ (d ∷ after_first (λ d. eqb d c) text)) at

-- the same where a part of code found the place
pub boundary_at : (text bytes : List ℕ) (n : ℕ) → bytes ≡ text → n ≡ position_or_len (λ d. eqb d 47) bytes → IsCharBoundary text n
boundary_at text bytes n e at =
    subst (λ (m : ℕ). IsCharBoundary text m) (sym (at ∙ ap (λ t. position_or_len (λ d. eqb d 47) t) e)) (IsCharBoundary-position 47 text (omega arith))

-- and where it skipped the first byte
pub boundary_after_first : (text bytes : List ℕ) (n : ℕ) → 0 < length text → bytes ≡ drop 1 text → n ≡ position_or_len (λ d. eqb d 47) bytes → IsCharBoundary text (1 + n)
boundary_after_first [] bytes n l e at = absurd (omega arith)
boundary_after_first (x ∷ xs) bytes n l e at =
    let from : n ≡ position_or_len (λ d. eqb d 47) xs = at ∙ ap (λ t. position_or_len (λ d. eqb d 47) t) e in
    let inside : position_or_len (λ d. eqb d 47) xs ≤ length xs = position-le-length (λ d. eqb d 47) xs in
    ⊎_elim
    (λ (m : n < length xs).
    let low : get_or xs n 0 ≡ 47 = ap (λ k. get_or xs k 0) from ∙ eqb-true _ 47 (passes_at_first (λ d. eqb d 47) xs 0 (omega arith)) in
    let here : get_or (x ∷ xs) (1 + n) 0 ≡ 47 = rw (add_comm 1 n, add-one) low in
    IsCharBoundary-before_ascii (x ∷ xs) (1 + n) (omega arith) (omega arith))
    (λ (m : length xs ≤ n).
    let same : 1 + n ≡ length (x ∷ xs) = omega arith in
    subst (λ (k : ℕ). IsCharBoundary (x ∷ xs) k) (sym same) (IsCharBoundary-end (x ∷ xs)))
    (cases_lt n (length xs))

-- the clause of `rfind` at a slash
abbrev pub FindsLastSlash : List ℕ → Option ℕ → Type 0
FindsLastSlash text r = MatchOption r (RFindsChar 47 text None) (λ i. (j : ℕ) × RFindsChar 47 text (Some (i, j)) × (i ≤ j) × IsCharBoundary text i × IsCharBoundary text j)

suffix-none : (text : List ℕ) → ((i : ℕ) → i < length text → get_or text i 0 ≡ 47 → ⊥) → suffix_len (λ c. not (eqb c 47)) text ≡ length text
suffix-none text h =
    suffix_len_is (λ c. not (eqb c 47)) text 0 0 (omega arith) (λ k _ l. ap not (ne_eqb _ 47 (h k l))) (λ l. absurd (omega arith)) ∙ sub-zero (length text)

suffix-some : (text : List ℕ) (k : ℕ) → k < length text → get_or text k 0 ≡ 47 → ((i : ℕ) → k < i → i < length text → get_or text i 0 ≡ 47 → ⊥) → suffix_len (λ c. not (eqb c 47)) text ≡ length text - (k + 1)
suffix-some text k l at h =
    suffix_len_is (λ c. not (eqb c 47)) text (k + 1) 0 (omega arith) (λ i a b. ap not (ne_eqb _ 47 (h i (omega arith) b)))
    (λ _. ap not (eq-eqb _ 47 (ap (λ n. get_or text n 0) (add-sub_cancel k 1) ∙ at)))

-- what `rfind` gives says what stands before the last slash
pub before_last-found : (text : List ℕ) (r : Option ℕ) → FindsLastSlash text r → before_last (λ c. eqb c 47) text ≡ take (unwrap_or r 0) text
before_last-found text None h =
    let n : suffix_len (λ c. not (eqb c 47)) text ≡ length text = suffix-none text (rfind_char 47 text None h (omega arith)) in
    let same : length text - suffix_len (λ c. not (eqb c 47)) text - 1 ≡ 0 = omega arith in
    ap (λ m. take m text) same
before_last-found text (Some k) h =
    let f = rfind_char 47 text (Some k) h (omega arith) in
    let n : suffix_len (λ c. not (eqb c 47)) text ≡ length text - (k + 1) = suffix-some text k f.0 f.1 f.2 in
    let inside : k < length text = f.0 in
    let same : length text - suffix_len (λ c. not (eqb c 47)) text - 1 ≡ k = omega arith in
    ap (λ m. take m text) same

-- where a `position` is not found, the length stands for it
pub unwrap_or-position : (p : ℕ → Bool) (text : List ℕ) → unwrap_or (position p text) (length text) ≡ position_or_len p text
unwrap_or-position p text =
    let inside : position_or_len p text ≤ length text = position-le-length p text in
    cond_both (ltb (position_or_len p text) (length text)) (Some (position_or_len p text)) None (λ r. unwrap_or r (length text) ≡ position_or_len p text)
    (λ _. refl)
    (λ (past : ltb (position_or_len p text) (length text) ≡ false). let above : length text ≤ position_or_len p text = ltb-false _ _ past in omega arith)

-- what a slice from the second byte on is
pub tail_of : (text bytes : List ℕ) → bytes ≡ text → take (length bytes - 1) (drop 1 bytes) ≡ drop 1 text
tail_of text bytes e =
    let short : length (drop 1 bytes) ≤ length bytes - 1 = omega (arith, length-drop 1 bytes) in
    take_all _ (drop 1 bytes) short ∙ ap (λ t. drop 1 t) e

pub list_any-past : (p : ℕ → Bool) (text : List ℕ) → length text ≤ position_or_len p text → list_any p text ≡ false
list_any-past p text l = list_any-position p text ∙ le-ltb _ _ l

pub take-one_more : (n x : ℕ) (xs : List ℕ) → take (1 + n) (x ∷ xs) ≡ x ∷ take n xs
take-one_more n x xs = ap (λ m. take m (x ∷ xs)) (add_comm 1 n ∙ add-one n)

-- nothing before the first element that passes does
list_any-before : (p : ℕ → Bool) (text : List ℕ) → list_any p (before_first p text) ≡ false
list_any-before p [] = refl
list_any-before p (x ∷ xs) =
    ⊎_elim
    (λ (e : p x ≡ true). ap (λ b. list_any p (take (cond (not b) (1 + position_or_len p xs) 0) (x ∷ xs))) e)
    (λ (e : p x ≡ false).
    ap (λ b. list_any p (take (cond (not b) (1 + position_or_len p xs) 0) (x ∷ xs))) e ∙ ap (list_any p) (take-one_more (position_or_len p xs) x xs) ∙ or_from _ _ e (list_any-before p xs))
    (cases_Bool (p x))

pub lacks-before : (mark : ℕ) (text : List ℕ) → Lacks mark (before_first (λ c. eqb c mark) text)
lacks-before mark text = list_any-before (λ c. eqb c mark) text

pub lacks-take : (mark n : ℕ) (text : List ℕ) → Lacks mark text → Lacks mark (take n text)
lacks-take mark n text h = (or_parts _ _ (sym (list_any-append (λ c. eqb c mark) (take n text) (drop n text)) ∙ ap (list_any (λ c. eqb c mark)) (take-append-drop n text) ∙ h)).0

pub lacks-drop : (mark n : ℕ) (text : List ℕ) → Lacks mark text → Lacks mark (drop n text)
lacks-drop mark n text h = (or_parts _ _ (sym (list_any-append (λ c. eqb c mark) (take n text) (drop n text)) ∙ ap (list_any (λ c. eqb c mark)) (take-append-drop n text) ∙ h)).1

lacks-at : (mark : ℕ) (text : List ℕ) (i : ℕ) → Lacks mark text → i < length text → get_or text i 0 ≡ mark → ⊥
lacks-at mark [] i h l e = omega arith
lacks-at mark (x ∷ xs) zero h l e = eqb-false x mark ((or_parts (eqb x mark) (list_any (λ c. eqb c mark) xs) h).0) e
lacks-at mark (x ∷ xs) (suc i) h l e = lacks-at mark xs i ((or_parts (eqb x mark) (list_any (λ c. eqb c mark) xs) h).1) (omega arith) e

list_any-fails : (p : ℕ → Bool) (text : List ℕ) → ((i : ℕ) → i < length text → p (get_or text i 0) ≡ false) → list_any p text ≡ false
list_any-fails p [] h = refl
list_any-fails p (x ∷ xs) h = or_from _ _ (h 0 (omega arith)) (list_any-fails p xs (λ i l. h (suc i) (omega arith)))

-- a text has no slash, or a last one
pub last_place : (text : List ℕ) → Lacks 47 text ⊎ ((front : List ℕ) × (name : List ℕ) × (text ≡ front ++ 47 ∷ name) × Lacks 47 name)
last_place [] = inl refl
last_place (x ∷ xs) =
    ⊎_elim
    (λ (none : Lacks 47 xs).
    ⊎_elim
    (λ (e : eqb x 47 ≡ true). inr ([], xs, ap (λ c. c ∷ xs) (eqb-true x 47 e), none))
    (λ (e : eqb x 47 ≡ false). inl (or_from _ _ e none))
    (cases_Bool (eqb x 47)))
    (λ (last : (front : List ℕ) × (name : List ℕ) × (xs ≡ front ++ 47 ∷ name) × Lacks 47 name). inr (x ∷ last.0, last.1, ap (λ t. x ∷ t) last.2, last.3))
    (last_place xs)

pub before_last-lacks : (text : List ℕ) → Lacks 47 text → before_last (λ c. eqb c 47) text ≡ []
before_last-lacks text h =
    let n : suffix_len (λ c. not (eqb c 47)) text ≡ length text = suffix-none text (λ i l e. lacks-at 47 text i h l e) in
    let same : length text - suffix_len (λ c. not (eqb c 47)) text - 1 ≡ 0 = omega arith in
    ap (λ m. take m text) same

get_or-front : (front name : List ℕ) (i : ℕ) → get_or (front ++ 47 ∷ name) (length front + i) 0 ≡ get_or (47 ∷ name) i 0
get_or-front front name i = get_or-append-add front (47 ∷ name) i 0

pub before_last-at : (text front name : List ℕ) → text ≡ front ++ 47 ∷ name → Lacks 47 name → before_last (λ c. eqb c 47) text ≡ front
before_last-at text front name e h =
    let long : length text ≡ length front + suc (length name) = ap length e ∙ length-append front (47 ∷ name) in
    let here : get_or text (length front) 0 ≡ 47 = ap (λ t. get_or t (length front) 0) e ∙ ap (λ n. get_or (front ++ 47 ∷ name) n 0) (sym (add-zero (length front))) ∙ get_or-front front name 0 in
    let n : suffix_len (λ c. not (eqb c 47)) text ≡ length text - (length front + 1) = suffix-some text (length front) (omega arith) here (λ i a b f.
    let back : length front + suc (i - length front - 1) ≡ i = omega arith in
    lacks-at 47 name (i - length front - 1) h (omega arith) (sym (get_or-front front name (suc (i - length front - 1))) ∙ ap (λ k. get_or (front ++ 47 ∷ name) k 0) back ∙ sym (ap (λ t. get_or t i 0) e) ∙ f)) in
    let same : length text - suffix_len (λ c. not (eqb c 47)) text - 1 ≡ length front = omega arith in
    ap (λ m. take m text) same ∙ ap (λ t. take (length front) t) e ∙ take-append-le (length front) front (47 ∷ name) (omega arith) ∙ take_all (length front) front (omega arith)

-- and what the directory is
pub directory-found : (text : List ℕ) (k : ℕ) → FindsLastSlash text (Some k) → directory text ≡ take (k + 1) text
directory-found text k h =
    let f = rfind_char 47 text (Some k) h (omega arith) in
    let some : list_any (λ c. eqb c 47) text ≡ true = true_from_ne_false _ (λ e. lacks-at 47 text k e f.0 f.1) in
    ap (λ b. cond b (before_last (λ c. eqb c 47) text ++ 47 ∷ []) []) some ∙ ap (λ t. t ++ 47 ∷ []) (before_last-found text (Some k) h) ∙ sym (take_more text k 0 f.0 ∙ ap (λ c. take k text ++ c ∷ []) f.1)

pub directory-none : (text : List ℕ) → FindsLastSlash text None → directory text ≡ []
directory-none text h =
    let none : list_any (λ c. eqb c 47) text ≡ false = list_any-fails (λ c. eqb c 47) text (λ i l. ne_eqb _ 47 (rfind_char 47 text None h (omega arith) i l)) in
    ap (λ b. cond b (before_last (λ c. eqb c 47) text ++ 47 ∷ []) []) none
