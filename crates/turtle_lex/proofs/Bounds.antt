-- A name or a number has no more characters than the text.
use Rattle.std.proofs.Common.{◌≡◌, ℕ, suc, ◌+◌, ◌-◌, ◌≤◌, true, false, cond, ◌==◌, ◌||◌, List, [], ◌∷◌, length, drop, Option, Some, None, arith, length-drop}
use Rattle.turtle_lex.specs.declared.token.TokenKind.{TokenKind}
use Rattle.turtle_lex.specs.declared.token.TokenKind.TheVariants.{Decimal, Double}
use Rattle.rdf_lexical.specs.declared.classes.Class.TheVariants.{Sign, Digit, LocalStart}
use Rattle.rdf_lexical.specs.Classes.{holds, begins_with, run_length}
use Rattle.turtle_lex.specs.Names.{local_run, local_length}
use Rattle.turtle_lex.specs.Numbers.{sign_length, point_length, signed_digits, exponent_length, number_kind, number_length, with_length, unsigned_number, after_sign, number}
use Rattle.rdf_lexical.proofs.Runs as runs
use Rattle.turtle_lex.proofs.NameTexts as names

pub local_bound : (cs : List ℕ) → local_length cs ≤ length cs
local_bound cs = elim (begins_with LocalStart cs) as (λ b. cond b (local_run 0 cs) 0 ≤ length cs) [ true ↦ names.run_bound 0 cs (omega arith) | false ↦ omega arith ]

sign_bound : (cs : List ℕ) → sign_length cs ≤ length cs
sign_bound [] = omega arith
sign_bound (c ∷ cs) = elim (holds Sign c) as (λ b. cond b 1 0 ≤ suc (length cs)) [ true ↦ omega arith | false ↦ omega arith ]

point_bound : (cs : List ℕ) → point_length cs ≤ length cs
point_bound [] = omega arith
point_bound (c ∷ cs) = let more = runs.run_bound Digit cs in elim (c == 46) as (λ b. cond b (suc (run_length Digit cs)) 0 ≤ suc (length cs)) [ true ↦ omega arith | false ↦ omega arith ]

signed_bound : (cs : List ℕ) → signed_digits cs ≤ length cs
signed_bound cs =
    let s = sign_length cs in
    let d = run_length Digit (drop s cs) in
    let sign = sign_bound cs in
    let more = runs.run_bound Digit (drop s cs) in
    let size : length (drop s cs) ≡ length cs - s = length-drop s cs in
    elim (d == 0) as (λ b. cond b 0 (s + d) ≤ length cs) [ true ↦ omega arith | false ↦ omega arith ]

exponent_bound : (cs : List ℕ) → exponent_length cs ≤ length cs
exponent_bound [] = omega arith
exponent_bound (c ∷ cs) =
    let n = signed_digits cs in
    let more = signed_bound cs in
    elim (c == 101 || c == 69) as (λ b. cond b (cond (n == 0) 0 (suc n)) 0 ≤ suc (length cs)) [
      | true ↦ elim (n == 0) as (λ b. cond b 0 (suc n) ≤ suc (length cs)) [ true ↦ omega arith | false ↦ omega arith ]
      | false ↦ omega arith
    ]

abbrev pub Within : Option (TokenKind × ℕ) → List ℕ → Type 0
Within None cs = Unit {0}
Within (Some p) cs = p.1 ≤ length cs

kind_bound : (k : TokenKind) (d p e : ℕ) → number_length k d p e ≤ d + p + e
kind_bound Double d p e = omega arith
kind_bound Decimal d p e = omega arith
kind_bound _ d p e = omega arith

parts_bound : (k : Option TokenKind) (d p e : ℕ) (u : List ℕ) → d + p + e ≤ length u → Within (with_length k (λ x. number_length x d p e)) u
parts_bound None d p e u h = tt
parts_bound (Some k) d p e u h = let most = kind_bound k d p e in omega arith

unsigned_bound : (u : List ℕ) → Within (unsigned_number u) u
unsigned_bound u =
    let d = run_length Digit u in
    let p = point_length (drop d u) in
    let e = exponent_length (drop p (drop d u)) in
    let digits = runs.run_bound Digit u in
    let point = point_bound (drop d u) in
    let exponent = exponent_bound (drop p (drop d u)) in
    let rest : length (drop d u) ≡ length u - d = length-drop d u in
    let last : length (drop p (drop d u)) ≡ length (drop d u) - p = length-drop p (drop d u) in
    parts_bound (number_kind d p e) d p e u (omega arith)

signed : (n : ℕ) (r : Option (TokenKind × ℕ)) (cs : List ℕ) → n ≤ length cs → Within r (drop n cs) → Within (after_sign n r) cs
signed n None cs h w = tt
signed n (Some p) cs h w = let size : length (drop n cs) ≡ length cs - n = length-drop n cs in omega arith

pub number_bound : (cs : List ℕ) → Within (number cs) cs
number_bound cs = signed (sign_length cs) (unsigned_number (drop (sign_length cs) cs)) cs (sign_bound cs) (unsigned_bound (drop (sign_length cs) cs))
