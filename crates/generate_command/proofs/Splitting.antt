-- Lines without an LF of their own are what their text is split into.
use Rattle.std.proofs.Common.{◌≡◌, ℕ, ◌+◌, ◌<◌, ◌^◌, ◌&&◌, ◌==◌, Bool, true, false, not, List, [], ◌∷◌, ◌++◌, map, refl, ap, ◌∙◌, arith, append_assoc}
use Rattle.std.specs.List.{slice_split, list_all}
use Rattle.std.specs.Fmt.{decimal}
use Rattle.std.proofs.lemmas.Bool.Decides.{nat_tests}
use Rattle.std.proofs.lemmas.Fmt.{decimal-digits_of}
use Rattle.std.specs.Int.Digits.{digits_of}
use Rattle.std.proofs.lemmas.List.Folds.{list_all-append}
use Rattle.load_maker.specs.Workload.{lines_text}

abbrev pub is_lf : ℕ → Bool
is_lf c = c == 10

abbrev pub no_lf : List ℕ → Bool
no_lf text = list_all (λ c. not (c == 10)) text

abbrev pub no_lfs : List (List ℕ) → Bool
no_lfs lines = list_all no_lf lines

pub both : (a b : Bool) → (a && b) ≡ true → (a ≡ true) × (b ≡ true)
both true b h = (refl, h)
both false b h = cc

pub all_of : (a b : Bool) → a ≡ true → b ≡ true → (a && b) ≡ true
all_of true b e f = f
all_of false b e f = cc

first_split : (c : ℕ) (cs rest : List ℕ) (ls : List (List ℕ)) (b : Bool) → (c == 10) ≡ b → not b ≡ true → slice_split is_lf (cs ++ 10 ∷ rest) ≡ cs ∷ ls → slice_split is_lf (c ∷ (cs ++ 10 ∷ rest)) ≡ (c ∷ cs) ∷ ls
first_split c cs rest ls true e h g = cc
first_split c cs rest ls false e h g = rw (e, g) refl

split_line : (text rest : List ℕ) → no_lf text ≡ true → slice_split is_lf (text ++ 10 ∷ rest) ≡ text ∷ slice_split is_lf rest
split_line [] rest h = refl
split_line (c ∷ cs) rest h = let p = both (not (c == 10)) (no_lf cs) h in first_split c cs rest (slice_split is_lf rest) (c == 10) refl p.0 (split_line cs rest p.1)

pub split_lines : (lines : List (List ℕ)) → no_lfs lines ≡ true → slice_split is_lf (lines_text lines) ≡ lines ++ [] ∷ []
split_lines [] h = refl
split_lines (l ∷ ls) h =
    let p = both (no_lf l) (no_lfs ls) h in
    ap (slice_split is_lf) (append_assoc l (10 ∷ []) (lines_text ls)) ∙ (split_line l (lines_text ls) p.0 ∙ ap (λ xs. l ∷ xs) (split_lines ls p.1))

digits_no_lf : (ds : List ℕ) → no_lf (map (λ d. 48 + d) ds) ≡ true
digits_no_lf [] = refl
digits_no_lf (d ∷ ds) = let no : (48 + d == 10) ≡ false = grind (arith, nat_tests) in all_of (not (48 + d == 10)) (no_lf (map (λ d. 48 + d) ds)) (ap not no) (digits_no_lf ds)

-- a decimal has none
pub decimal_no_lf : (n : ℕ) → 0 < n → n < 2 ^ 64 → no_lf (decimal n) ≡ true
decimal_no_lf n some small = ap no_lf (decimal-digits_of n some small) ∙ digits_no_lf (digits_of 10 n)

pub append_no_lf : (xs ys : List ℕ) → no_lf xs ≡ true → no_lf ys ≡ true → no_lf (xs ++ ys) ≡ true
append_no_lf xs ys a b = list_all-append (λ c. not (c == 10)) xs ys ∙ all_of (no_lf xs) (no_lf ys) a b

pub append_no_lfs : (xs ys : List (List ℕ)) → no_lfs xs ≡ true → no_lfs ys ≡ true → no_lfs (xs ++ ys) ≡ true
append_no_lfs xs ys a b = list_all-append no_lf xs ys ∙ all_of (no_lfs xs) (no_lfs ys) a b
