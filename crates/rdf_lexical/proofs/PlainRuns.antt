-- Runs of ASCII characters that a token may hold, by their bytes.
use Rattle.std.proofs.Common.{◌≡◌, ◌∙◌, ℕ, suc, ◌+◌, ◌≤◌, ◌/◌, ltb, cond, ◌&&◌, true, false, List, [], ◌∷◌, ◌++◌, length, take, drop, refl, ap, arith}
use Rattle.std.specs.Prelude.{nat_lt}
use Rattle.std.proofs.lemmas.Bool.{and_parts}
use Rattle.std.proofs.lemmas.Bool.Decides.{nat_tests}
use Rattle.std.proofs.lemmas.List.{length-append}
use Rattle.std.proofs.lemmas.Str.{encode_ascii}
use lib.Utf8.{encode, encodes, next}
use Rattle.rdf_lexical.specs.declared.enclosing.Enclosed.{Enclosed}
use Rattle.rdf_lexical.specs.Enclosed.{enclosed_length, may_hold, opened, plain_length}
use Rattle.rdf_lexical.proofs.EnclosedTokens.{held_character}

-- a byte of a longer character ends a run
stop : (e : Enclosed) (b : ℕ) (bs : List ℕ) → 128 ≤ b → plain_length e (b ∷ bs) ≡ 0
stop e b bs h = let no : nat_lt b 128 ≡ false = grind (arith, nat_tests) in ap (λ x. cond (x && may_hold e b) (suc (plain_length e bs)) 0) no

abbrev two : ℕ → List ℕ
two c = (192 + c / 64) ∷ next c ∷ []

abbrev three : ℕ → List ℕ
three c = (224 + c / 4096) ∷ next (c / 64) ∷ next c ∷ []

abbrev four : ℕ → List ℕ
four c = (240 + c / 262144) ∷ next (c / 4096) ∷ next (c / 64) ∷ next c ∷ []

stop_high : (e : Enclosed) (c : ℕ) (bs : List ℕ) → ltb c 128 ≡ false → plain_length e (encode c ++ bs) ≡ 0
unfolding encode
stop_high e c bs h =
    ap (λ x. plain_length e (cond x (c ∷ []) (cond (ltb c 2048) (two c) (cond (ltb c 65536) (three c) (four c))) ++ bs)) h
    ∙ elim (ltb c 2048) as (λ x. plain_length e (cond x (two c) (cond (ltb c 65536) (three c) (four c)) ++ bs) ≡ 0) [
      | true ↦ stop e (192 + c / 64) (next c ∷ bs) (omega arith)
      | false ↦ elim (ltb c 65536) as (λ x. plain_length e (cond x (three c) (four c) ++ bs) ≡ 0) [
        | true ↦ stop e (224 + c / 4096) (next (c / 64) ∷ next c ∷ bs) (omega arith)
        | false ↦ stop e (240 + c / 262144) (next (c / 4096) ∷ next (c / 64) ∷ next c ∷ bs) (omega arith)
      ]
    ]

-- a run of characters is that of their bytes
pub plain_bytes : (e : Enclosed) (cs : List ℕ) → plain_length e (encodes cs) ≡ plain_length e cs
plain_bytes e [] = refl
plain_bytes e (c ∷ cs) = elim (ltb c 128) as (λ b. ltb c 128 ≡ b → plain_length e (encode c ++ encodes cs) ≡ cond (b && may_hold e c) (suc (plain_length e cs)) 0) [
  | true ↦ λ is.
      ap (λ xs. plain_length e (xs ++ encodes cs)) (encode_ascii c (grind (arith, nat_tests)))
      ∙ ap (λ b. cond (b && may_hold e c) (suc (plain_length e (encodes cs))) 0) is
      ∙ ap (λ n. cond (may_hold e c) (suc n) 0) (plain_bytes e cs)
  | false ↦ λ is. stop_high e c (encodes cs) is
] refl

pub plain_bound : (e : Enclosed) (cs : List ℕ) → plain_length e cs ≤ length cs
plain_bound e [] = omega arith
plain_bound e (c ∷ cs) = let more = plain_bound e cs in elim (nat_lt c 128 && may_hold e c) as (λ b. cond b (suc (plain_length e cs)) 0 ≤ suc (length cs)) [
  | true ↦ omega arith
  | false ↦ omega arith
]

-- each of them is one byte
pub plain_size : (e : Enclosed) (cs : List ℕ) → plain_length e cs ≡ length (encodes (take (plain_length e cs) cs))
plain_size e [] = refl
plain_size e (c ∷ cs) = elim (nat_lt c 128 && may_hold e c) as (λ b. (nat_lt c 128 && may_hold e c) ≡ b → cond b (suc (plain_length e cs)) 0 ≡ length (encodes (take (cond b (suc (plain_length e cs)) 0) (c ∷ cs)))) [
  | true ↦ λ is.
      let low = (and_parts (nat_lt c 128) (may_hold e c) is).0 in
      let one : length (encode c) ≡ 1 = ap length (encode_ascii c (grind (arith, nat_tests))) in
      omega (arith, one, plain_size e cs, length-append (encode c) (encodes (take (plain_length e cs) cs)))
  | false ↦ λ is. refl
] refl

-- the token behind a run
pub plain_run : (e : Enclosed) (cs : List ℕ) (count : ℕ) → opened count (enclosed_length e 0 cs) ≡ opened (count + plain_length e cs) (enclosed_length e 0 (drop (plain_length e cs) cs))
plain_run e [] count = let none : count ≡ count + 0 = omega arith in ap (λ n. opened n (enclosed_length e 0 [])) none
plain_run e (c ∷ cs) count = elim (nat_lt c 128 && may_hold e c) as (λ b. (nat_lt c 128 && may_hold e c) ≡ b → opened count (enclosed_length e 0 (c ∷ cs)) ≡ opened (count + cond b (suc (plain_length e cs)) 0) (enclosed_length e 0 (drop (cond b (suc (plain_length e cs)) 0) (c ∷ cs)))) [
  | true ↦ λ is.
      let sum : (count + 1) + plain_length e cs ≡ count + suc (plain_length e cs) = omega arith in
      held_character e (c ∷ cs) cs c count refl ((and_parts (nat_lt c 128) (may_hold e c) is).1)
      ∙ plain_run e cs (count + 1)
      ∙ ap (λ n. opened n (enclosed_length e 0 (drop (plain_length e cs) cs))) sum
  | false ↦ λ is. let none : count ≡ count + 0 = omega arith in ap (λ n. opened n (enclosed_length e 0 (c ∷ cs))) none
] refl
