-- The text of a file's lines, and how long a block among them is.
use Rattle.std.proofs.Common.{◌≡◌, ℕ, ◌+◌, ◌<◌, ◌≤◌, suc, Bool, true, false, ◌==◌, cond, List, [], ◌∷◌, ◌++◌, length, take, drop, add-one, refl, sym, ap, ◌∙◌, zero, arith, length-append, append_assoc}
use Rattle.std.specs.List.{slice_split, onto_first}
use Rattle.std.proofs.lemmas.Bool.Decides.{nat_tests}
use Rattle.std.proofs.lemmas.List.{take-append-drop, drop-drop}
use Rattle.session_reader.specs.SessionFile.{block_text, file_lines}

-- each list has a first part
pub split-cons : (p : ℕ → Bool) (xs : List ℕ) → (y : List ℕ) × (ys : List (List ℕ)) × (slice_split p xs ≡ y ∷ ys)
split-cons p [] = ([], [], refl)
split-cons p (x ∷ xs) = elim (p x) as (λ b. (y : List ℕ) × (ys : List (List ℕ)) × (cond b ([] ∷ slice_split p xs) (onto_first x (slice_split p xs)) ≡ y ∷ ys)) [
  | true ↦ ([], slice_split p xs, refl)
  | false ↦ let h = split-cons p xs in (x ∷ h.0, h.1, ap (onto_first x) h.2)
]

block_text-append : (a b : List (List ℕ)) → block_text (a ++ b) ≡ block_text a ++ block_text b
block_text-append [] b = refl
block_text-append (l ∷ ls) b = ap (λ t. (l ++ 10 ∷ []) ++ t) (block_text-append ls b) ∙ sym (append_assoc (l ++ 10 ∷ []) (block_text ls) (block_text b))

-- a list whose first part begins with one more
onto : (x : ℕ) (parts : List (List ℕ)) (y : List ℕ) (ys : List (List ℕ)) → parts ≡ y ∷ ys → block_text (onto_first x parts) ≡ x ∷ block_text parts
onto x parts y ys e = ap (λ ps. block_text (onto_first x ps)) e ∙ sym (ap (λ ps. x ∷ block_text ps) e)

-- the lines of a file, each with its LF, are the file and an LF
pub split_text : (xs : List ℕ) → block_text (file_lines xs) ≡ xs ++ 10 ∷ []
split_text [] = refl
split_text (x ∷ xs) = elim (x == 10) as (λ b. (x == 10) ≡ b → block_text (cond b ([] ∷ file_lines xs) (onto_first x (file_lines xs))) ≡ x ∷ (xs ++ 10 ∷ [])) [
  | true ↦ λ e. let is : 10 ≡ x = grind (arith, nat_tests, e) in ap (λ t. 10 ∷ t) (split_text xs) ∙ ap (λ y. y ∷ (xs ++ 10 ∷ [])) is
  | false ↦ λ e. let h = split-cons (λ c. c == 10) xs in onto x (file_lines xs) h.0 h.1 h.2 ∙ ap (λ t. x ∷ t) (split_text xs)
] refl

part_length : (a b c : List (List ℕ)) → a ++ b ≡ c → length (block_text a) + length (block_text b) ≡ length (block_text c)
part_length a b c e =
    let h : length (block_text a ++ block_text b) ≡ length (block_text a) + length (block_text b) = simp length-append in
    sym h ∙ (ap length (sym (block_text-append a b)) ∙ ap (λ ls. length (block_text ls)) e)

-- the lines of a file, each with its LF, are one byte longer than the file
pub file_length : (bytes : List ℕ) → length (block_text (file_lines bytes)) ≡ length bytes + 1
file_length bytes = let h : length (bytes ++ 10 ∷ []) ≡ length bytes + 1 = simp length-append (omega arith) in ap length (split_text bytes) ∙ h

-- what two lists begin with that are one
front : (a b c d : List ℕ) → a ++ b ≡ c ++ d → length a ≤ length c → take (length a) c ≡ a
front [] b c d e lt = refl
front (x ∷ a) b [] d e lt = absurd (omega arith)
front (x ∷ a) b (y ∷ c) d e lt =
    let first : y ≡ x = cc in
    let behind : a ++ b ≡ c ++ d = cc in
    ap (λ z. z ∷ take (length a) c) first ∙ ap (λ t. x ∷ t) (front a b c d behind (omega arith))

-- so many of the first lines of a file are a part of it
pub front_text : (bytes : List ℕ) (n : ℕ) → length (block_text (take n (file_lines bytes))) ≤ length bytes → take (length (block_text (take n (file_lines bytes)))) bytes ≡ block_text (take n (file_lines bytes))
front_text bytes n within =
    let lines = file_lines bytes in
    let whole = sym (block_text-append (take n lines) (drop n lines)) ∙ (ap block_text (take-append-drop n lines) ∙ split_text bytes) in
    front (block_text (take n lines)) (block_text (drop n lines)) bytes (10 ∷ []) whole within

-- the first of the lines that are left
following : {X : Type 0} (n : ℕ) (ls : List X) (x : X) (xs : List X) → drop n ls ≡ x ∷ xs → (take (suc n) ls ≡ take n ls ++ x ∷ []) × (drop (suc n) ls ≡ xs)
following zero [] x xs e = cc
following zero (y ∷ ys) x xs e = (ap (λ z. z ∷ []) cc, cc)
following (suc n) [] x xs e = cc
following (suc n) (y ∷ ys) x xs e = let h = following n ys x xs e in (ap (λ t. y ∷ t) h.0, h.1)

pub taken_more : {X : Type 0} (n : ℕ) (ls : List X) (x : X) (xs : List X) → drop n ls ≡ x ∷ xs → take (n + 1) ls ≡ take n ls ++ x ∷ []
taken_more n ls x xs e = rw add-one (following n ls x xs e).0

pub left_more : {X : Type 0} (n : ℕ) (ls : List X) (x : X) (xs : List X) → drop n ls ≡ x ∷ xs → drop (n + 1) ls ≡ xs
left_more n ls x xs e = rw add-one (following n ls x xs e).1

-- how long the lines before the first that is left are, and with it
pub longer_by : (n : ℕ) (lines : List (List ℕ)) (line : List ℕ) (rest : List (List ℕ)) → drop n lines ≡ line ∷ rest → length (block_text (take (n + 1) lines)) ≡ length (block_text (take n lines)) + length line + 1
longer_by n lines line rest e =
    let one : length (block_text (line ∷ [])) ≡ length line + 1 = simp length-append (omega arith) in
    omega (arith, ap (λ ls. length (block_text ls)) (taken_more n lines line rest e), part_length (take n lines) (line ∷ []) (take n lines ++ line ∷ []) refl, one)

pub line_within : (bytes : List ℕ) (n : ℕ) (line : List ℕ) (rest : List (List ℕ)) → drop n (file_lines bytes) ≡ line ∷ rest → length (block_text (take n (file_lines bytes))) + length line ≤ length bytes
line_within bytes n line rest e =
    let lines = file_lines bytes in
    omega (arith, file_length bytes, part_length (take (n + 1) lines) (drop (n + 1) lines) lines (take-append-drop (n + 1) lines), longer_by n lines line rest e)

one_fewer : (texts : List (List ℕ)) (n : ℕ) → length (block_text (drop (n + 1) texts)) ≤ length (block_text (drop n texts))
one_fewer texts n =
    let parts = part_length (take 1 (drop n texts)) (drop 1 (drop n texts)) (drop n texts) (take-append-drop 1 (drop n texts)) in
    let same : length (block_text (drop 1 (drop n texts))) ≡ length (block_text (drop (n + 1) texts)) = ap (λ ls. length (block_text ls)) (drop-drop 1 n texts) in
    omega arith

-- the lines behind the first few are no longer than all
pub rest_short : (texts : List (List ℕ)) (n : ℕ) → length (block_text (drop n texts)) ≤ length (block_text texts)
rest_short texts n = omega (arith, part_length (take n texts) (drop n texts) texts (take-append-drop n texts))

-- a block is no longer than the lines that it begins
pub block_within : (texts : List (List ℕ)) (n : ℕ) → length (block_text (take n texts)) ≤ length (block_text texts)
block_within texts n = omega (arith, part_length (take n texts) (drop n texts) texts (take-append-drop n texts))

-- a block takes no more numbers than it has characters
pub after_block : (texts : List (List ℕ)) (n old new : ℕ) → new ≤ old + length (block_text (take n texts)) → new + length (block_text (drop (n + 1) texts)) ≤ old + length (block_text texts)
after_block texts n old new most =
    let parts = part_length (take n texts) (drop n texts) texts (take-append-drop n texts) in
    let fewer = one_fewer texts n in
    omega arith

-- the lines after one and so many more
pub rest_within : (line : List ℕ) (texts : List (List ℕ)) → length (block_text texts) < length (block_text (line ∷ texts))
rest_within line texts =
    let parts = part_length (line ∷ []) texts (line ∷ texts) refl in
    let one : length (block_text (line ∷ [])) ≡ length line + 1 = simp length-append (omega arith) in
    omega arith
