-- The line of an order, read back.
use Rattle.std.proofs.Common.{◌≡◌, ℕ, ◌+◌, ◌-◌, ◌*◌, ◌/◌, ◌%◌, ◌<◌, ◌≤◌, ◌&&◌, ◌||◌, ◌==◌, true, false, List, [], ◌∷◌, ◌++◌, length, map, take, get_or, Some, refl, sym, ap, ◌∙◌, subst, arith, nat_le, nat_lt, slice_index, codes, if◌then◌else◌, length-append, option_map}
use Rattle.std.specs.List.{slice_split, flat_map, list_any, onto_first, AllByRecursion}
use Rattle.std.specs.Fmt.{decimal}
use Rattle.std.specs.Io.BufRead.{strip_last, ends_with_byte}
use Rattle.std.proofs.lemmas.Bool.Decides.{nat_tests}
use Rattle.std.proofs.lemmas.Fmt.{decimal_digit, decimal_step}
use Rattle.std.proofs.lemmas.List.{append-nil}
use Rattle.std.proofs.lemmas.List.Splits.{slice_split-cons_yes, slice_split-cons_no}
use Rattle.std.proofs.Math.Seq.{take-append_seam, get_or-append_seam}
use Rattle.history_reader.specs.History.{one_digit, two_digits, session_of, places_after}
use Rattle.history_reader.specs.Laws.{AreSessions, ReadsBack}

abbrev NoSpace : List ℕ → Type 0
NoSpace xs = AllByRecursion (λ c. (c == 32) ≡ false) xs

split_at : (xs ys : List ℕ) → NoSpace xs → slice_split (λ c. c == 32) (xs ++ 32 ∷ ys) ≡ xs ∷ slice_split (λ c. c == 32) ys
split_at [] ys h = slice_split-cons_yes (λ c. c == 32) 32 ys refl
split_at (x ∷ xs) ys h = slice_split-cons_no (λ c. c == 32) x (xs ++ 32 ∷ ys) h.0 ∙ ap (onto_first x) (split_at xs ys h.1)

split_none : (xs : List ℕ) → NoSpace xs → slice_split (λ c. c == 32) xs ≡ xs ∷ []
split_none [] h = refl
split_none (x ∷ xs) h = slice_split-cons_no (λ c. c == 32) x xs h.0 ∙ ap (onto_first x) (split_none xs h.1)

-- a number of two digits
two : (i : ℕ) → 10 ≤ i → i ≤ 64 → decimal i ≡ (48 + i / 10) ∷ (48 + i % 10) ∷ []
two i ten most = decimal_step i ten (omega (arith, most)) ∙ ap (λ ds. ds ++ (48 + i % 10) ∷ []) (decimal_digit (i / 10) (omega (arith, most)))

no_space : (i : ℕ) → i ≤ 64 → NoSpace (decimal i)
no_space i most = elim (nat_le 10 i) as (λ b. nat_le 10 i ≡ b → NoSpace (decimal i)) [
  | true ↦ λ e. subst NoSpace (sym (two i (grind (arith, nat_tests, e)) most)) (grind (arith, nat_tests), (grind (arith, nat_tests), tt))
  | false ↦ λ e. subst NoSpace (sym (decimal_digit i (grind (arith, nat_tests, e)))) (grind (arith, nat_tests), tt)
] refl

one_back : (i : ℕ) → 1 ≤ i → i < 10 → one_digit (48 + i) ≡ Some i
one_back i one ten =
    let a : nat_le 49 (48 + i) ≡ true = grind (arith, nat_tests, one) in
    let b : nat_le (48 + i) 57 ≡ true = grind (arith, nat_tests, ten) in
    let v : 48 + i - 48 ≡ i = omega arith in
    rw (a, b, v) refl

two_back : (i q r : ℕ) → 1 ≤ q → q < 10 → r < 10 → q * 10 + r ≡ i → i ≤ 64 → two_digits (48 + q) (48 + r) ≡ Some i
two_back i q r one ten unit is most =
    let a : nat_le 49 (48 + q) ≡ true = grind (arith, nat_tests, one) in
    let b : nat_le (48 + q) 57 ≡ true = grind (arith, nat_tests, ten) in
    let c : nat_le 48 (48 + r) ≡ true = grind (arith, nat_tests) in
    let d : nat_le (48 + r) 57 ≡ true = grind (arith, nat_tests, unit) in
    let v : (48 + q - 48) * 10 + (48 + r - 48) ≡ i = omega (arith, is) in
    let m : nat_le i 64 ≡ true = grind (arith, nat_tests, most) in
    rw (a, b, c, d, v, m) refl

back : (i : ℕ) → 1 ≤ i → i ≤ 64 → session_of (decimal i) ≡ Some i
back i one most = elim (nat_le 10 i) as (λ b. nat_le 10 i ≡ b → session_of (decimal i) ≡ Some i) [
  | true ↦ λ e.
      let ten : 10 ≤ i = grind (arith, nat_tests, e) in
      ap session_of (two i ten most) ∙ two_back i (i / 10) (i % 10) (omega (arith, ten)) (omega (arith, most)) (omega arith) (omega arith) most
  | false ↦ λ e.
      let ten : i < 10 = grind (arith, nat_tests, e) in
      ap session_of (decimal_digit i ten) ∙ one_back i one ten
] refl

split_order : (word : List ℕ) (order : List ℕ) → NoSpace word → AreSessions order → slice_split (λ c. c == 32) (word ++ flat_map (λ i. 32 ∷ decimal i) order) ≡ word ∷ map decimal order
split_order word [] h a = ap (slice_split (λ c. c == 32)) (append-nil word) ∙ split_none word h
split_order word (i ∷ order) h a = split_at word (decimal i ++ flat_map (λ j. 32 ∷ decimal j) order) h ∙ ap (λ ps. word ∷ ps) (split_order (decimal i) order (no_space i a.0.1) a.1)

all_back : (order : List ℕ) → AreSessions order → map session_of (map decimal order) ≡ map Some order
all_back [] a = refl
all_back (i ∷ order) a = ap (λ o. o ∷ map session_of (map decimal order)) (back i a.0.0 a.0.1) ∙ ap (λ os. Some i ∷ os) (all_back order a.1)

strip_end : (xs : List ℕ) → strip_last 10 (xs ++ 10 ∷ []) ≡ xs
strip_end xs =
    let n : length (xs ++ 10 ∷ []) ≡ length xs + 1 = simp length-append in
    let m : length (xs ++ 10 ∷ []) - 1 ≡ length xs = omega (arith, n) in
    let some : nat_lt 0 (length (xs ++ 10 ∷ [])) ≡ true = grind (arith, nat_tests, n) in
    let last : slice_index (xs ++ 10 ∷ []) (length (xs ++ 10 ∷ []) - 1) ≡ 10 = ap (λ k. get_or (xs ++ 10 ∷ []) k 0) m ∙ get_or-append_seam xs 10 [] 0 in
    let ends : ends_with_byte 10 (xs ++ 10 ∷ []) ≡ true = ap (λ b. b && (slice_index (xs ++ 10 ∷ []) (length (xs ++ 10 ∷ []) - 1) == 10)) some ∙ ap (λ c. c == 10) last in
    ap (λ b. if b then take (length (xs ++ 10 ∷ []) - 1) (xs ++ 10 ∷ []) else (xs ++ 10 ∷ [])) ends ∙ (ap (λ k. take k (xs ++ 10 ∷ [])) m ∙ take-append_seam xs (10 ∷ []))

pub reads_back : ReadsBack
reads_back order a =
    let word : NoSpace (codes "history") = (refl, (refl, (refl, (refl, (refl, (refl, (refl, tt))))))) in
    let parts = ap (slice_split (λ c. c == 32)) (strip_end (codes "history" ++ flat_map (λ i. 32 ∷ decimal i) order)) ∙ split_order (codes "history") order word a in
    ap (λ ps. option_map (map session_of) (places_after ps)) parts ∙ ap Some (all_back order a)

-- no byte of the line before its end is an LF
abbrev NoEnd : List ℕ → Type 0
NoEnd xs = AllByRecursion (λ c. (c == 10) ≡ false) xs

NoEnd-append : (xs ys : List ℕ) → NoEnd xs → NoEnd ys → NoEnd (xs ++ ys)
NoEnd-append [] ys h k = k
NoEnd-append (x ∷ xs) ys h k = (h.0, NoEnd-append xs ys h.1 k)

no_end : (i : ℕ) → i ≤ 64 → NoEnd (decimal i)
no_end i most = elim (nat_le 10 i) as (λ b. nat_le 10 i ≡ b → NoEnd (decimal i)) [
  | true ↦ λ e. subst NoEnd (sym (two i (grind (arith, nat_tests, e)) most)) (grind (arith, nat_tests), (grind (arith, nat_tests), tt))
  | false ↦ λ e. subst NoEnd (sym (decimal_digit i (grind (arith, nat_tests, e)))) (grind (arith, nat_tests), tt)
] refl

no_ends : (order : List ℕ) → AreSessions order → NoEnd (flat_map (λ i. 32 ∷ decimal i) order)
no_ends [] a = tt
no_ends (i ∷ order) a = (refl, NoEnd-append (decimal i) (flat_map (λ j. 32 ∷ decimal j) order) (no_end i a.0.1) (no_ends order a.1))

none_among : (xs : List ℕ) → NoEnd xs → list_any (λ c. c == 10) xs ≡ false
none_among [] h = refl
none_among (x ∷ xs) h = ap (λ b. b || list_any (λ c. c == 10) xs) h.0 ∙ none_among xs h.1

pub one_line : (order : List ℕ) → AreSessions order → list_any (λ c. c == 10) (codes "history" ++ flat_map (λ i. 32 ∷ decimal i) order) ≡ false
one_line order a =
    let word : NoEnd (codes "history") = (refl, (refl, (refl, (refl, (refl, (refl, (refl, tt))))))) in
    none_among (codes "history" ++ flat_map (λ i. 32 ∷ decimal i) order) (NoEnd-append (codes "history") (flat_map (λ i. 32 ∷ decimal i) order) word (no_ends order a))
