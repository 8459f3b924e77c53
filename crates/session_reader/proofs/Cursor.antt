-- The lines that a cursor has before it.
use Rattle.std.proofs.Common.{◌≡◌, ℕ, suc, ◌+◌, ◌-◌, ◌<◌, ◌≤◌, Bool, true, false, not, nat_lt, ◌==◌, cond, List, [], ◌∷◌, ◌++◌, length, map, take, drop, Option, Some, None, refl, sym, ap, ◌∙◌, arith, length-append}
use Rattle.std.specs.Prelude.{position}
use Rattle.std.specs.Option.{option_map}
use Rattle.std.specs.List.{slice_split, onto_first, prefix_len, position_or_len}
use Rattle.std.proofs.lemmas.Bool.Decides.{nat_tests}
use Rattle.std.proofs.lemmas.List.{take_all, length-drop}
use Rattle.std.proofs.lemmas.List.Splits.{slice_split_first}
use Rattle.session_reader.specs.SessionFile.{block_length, block_text, file_lines, is_block_end}
use Rattle.session_reader.proofs.Lengths.{rest_within, split-cons}

-- a text with no LF is one line
only_line : (p : ℕ → Bool) (xs : List ℕ) → length xs ≤ position_or_len p xs → slice_split p xs ≡ xs ∷ []
only_line p [] h = refl
only_line p (x ∷ xs) h = elim (p x) as (λ b. length (x ∷ xs) ≤ cond (not b) (1 + prefix_len (λ y. not (p y)) xs) 0 → cond b ([] ∷ slice_split p xs) (onto_first x (slice_split p xs)) ≡ (x ∷ xs) ∷ []) [
  | true ↦ λ e. absurd (omega (arith, e))
  | false ↦ λ e. ap (onto_first x) (only_line p xs (omega (arith, e)))
] h

-- the first line ends before the first LF
pub line_before : (xs : List ℕ) (n : ℕ) → position (λ c. c == 10) xs ≡ Some n → (n < length xs) × (file_lines xs ≡ take n xs ∷ file_lines (drop (n + 1) xs))
line_before xs n h =
    let p = λ (c : ℕ). c == 10 in
    let q = position_or_len p xs in
    elim (nat_lt q (length xs)) as (λ b. nat_lt q (length xs) ≡ b → cond b (Some q) None ≡ Some n → (n < length xs) × (file_lines xs ≡ take n xs ∷ file_lines (drop (n + 1) xs))) [
      | true ↦ λ is e.
          let same : q ≡ n = cc in
          let within : q < length xs = grind (arith, nat_tests, is) in
          (omega (arith, same, within), slice_split_first p xs 0 within ∙ ap (λ k. take k xs ∷ file_lines (drop (k + 1) xs)) same)
      | false ↦ λ is e. cc
    ] refl h

pub last_line : (xs : List ℕ) → position (λ c. c == 10) xs ≡ None → file_lines xs ≡ xs ∷ []
last_line xs h =
    let p = λ (c : ℕ). c == 10 in
    let q = position_or_len p xs in
    elim (nat_lt q (length xs)) as (λ b. nat_lt q (length xs) ≡ b → cond b (Some q) None ≡ None → file_lines xs ≡ xs ∷ []) [
      | true ↦ λ is e. cc
      | false ↦ λ is e. only_line p xs (grind (arith, nat_tests, is))
    ] refl h

-- the rest of a text from a place on
pub whole_rest : (xs : List ℕ) (n : ℕ) → take (length xs - n) (drop n xs) ≡ drop n xs
whole_rest xs n = let short : length (drop n xs) ≤ length xs - n = omega (arith, length-drop n xs) in take_all _ (drop n xs) short

-- a text has a line
pub some_line : (xs : List ℕ) → false ≡ (length (file_lines xs) == 0)
some_line xs =
    let h = split-cons (λ c. c == 10) xs in
    let more : length (file_lines xs) ≡ suc (length h.1) = ap length h.2 in
    grind (arith, nat_tests, more)

-- the end of a block, counted from a line further on
pub counted_end : (count : ℕ) (line : List ℕ) (texts : List (List ℕ)) → true ≡ is_block_end line → option_map (λ n. count + n) (block_length (line ∷ texts)) ≡ Some count
counted_end count line texts is = let none : count + 0 ≡ count = omega arith in ap (λ b. option_map (λ n. count + n) (cond b (Some 0) (option_map suc (block_length texts)))) (sym is) ∙ ap (λ n. Some n) none

moved : (count : ℕ) (o : Option ℕ) → option_map (λ n. count + n) (option_map suc o) ≡ option_map (λ n. count + 1 + n) o
moved count None = refl
moved count (Some n) = let same : count + suc n ≡ count + 1 + n = omega arith in ap (λ k. Some k) same

pub counted_on : (count : ℕ) (line : List ℕ) (texts : List (List ℕ)) → false ≡ is_block_end line → option_map (λ n. count + n) (block_length (line ∷ texts)) ≡ option_map (λ n. count + 1 + n) (block_length texts)
counted_on count line texts other = ap (λ b. option_map (λ n. count + n) (cond b (Some 0) (option_map suc (block_length texts)))) (sym other) ∙ moved count (block_length texts)

-- a line more
pub map_on : {X : Type 0} (f : X → List ℕ) (xs : List X) (x : X) → map f (xs ++ x ∷ []) ≡ map f xs ++ f x ∷ []
map_on f [] x = refl
map_on f (y ∷ ys) x = ap (λ t. f y ∷ t) (map_on f ys x)

pub one_more : {X : Type 0} (xs : List X) (x : X) → length (xs ++ x ∷ []) ≡ length xs + 1
one_more xs x = simp length-append (omega arith)

-- each line has its LF
pub lines_fit : (lines : List (List ℕ)) → length lines ≤ length (block_text lines)
lines_fit [] = omega arith
lines_fit (line ∷ lines) = omega (arith, lines_fit lines, rest_within line lines)
