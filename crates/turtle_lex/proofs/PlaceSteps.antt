-- Places further on.
use Rattle.std.proofs.Common.{◌≡◌, ◌∙◌, ℕ, ◌+◌, ◌-◌, ◌≤◌, ◌<◌, ◌/◌, true, false, List, [], ◌∷◌, length, take, drop, cond, ltb, ◌==◌, refl, sym, ap, arith}
use Rattle.std.specs.Prelude.{◌^◌}
use Rattle.std.proofs.Math.Seq.{take-add}
use Rattle.std.proofs.lemmas.List.{length-append, length-take, take-append-drop}
use Rattle.std.proofs.lemmas.List.Sums.{sum_by-append, sum_by-cons, count_by-le-length}
use Rattle.std.proofs.lemmas.Bool.Decides.{nat_tests}
use Rattle.std.proofs.lemmas.Str.{encodes-append, length-le-encodes}
use lib.Utf8.{encode, encodes, next}
use Rattle.turtle_lex.specs.declared.token.TextPlace.{TextPlace}
use Rattle.turtle_lex.specs.Places.{line_feeds, place_at, IsPlace}

-- the bytes of a front, and those of what was added
pub bytes_further : (text : List ℕ) (at n : ℕ) → length (encodes (take (at + n) text)) ≡ length (encodes (take at text)) + length (encodes (take n (drop at text)))
bytes_further text at n = ap (λ cs. length (encodes cs)) (take-add at n text) ∙ ap length (encodes-append (take at text) (take n (drop at text))) ∙ length-append (encodes (take at text)) (encodes (take n (drop at text)))

-- no place of a text is as far on as memory reaches
pub record IsNear (text : List ℕ) (place : TextPlace) (n b k : ℕ) : Type 0 where
  pub at : place.at + n < 2 ^ 63
  pub byte : place.byte + b < 2 ^ 63
  pub line : place.line + k ≤ 2 ^ 63

pub near : (text : List ℕ) (place : TextPlace) (n b k : ℕ) → length (encodes text) < 2 ^ 63 → place.at + n ≤ length text → place ≡ place_at text place.at
    → b ≡ length (encodes (take n (drop place.at text))) → k ≤ n → IsNear text place n b k
near text place n b k size within is bytes passed =
    let parts : length (encodes text) ≡ length (encodes (take (place.at + n) text)) + length (encodes (drop (place.at + n) text)) =
    sym (ap (λ cs. length (encodes cs)) (take-append-drop (place.at + n) text)) ∙ ap length (encodes-append (take (place.at + n) text) (drop (place.at + n) text)) ∙ length-append (encodes (take (place.at + n) text)) (encodes (drop (place.at + n) text)) in
    let byte : place.byte ≡ length (encodes (take place.at text)) = ap (λ (p : TextPlace). p.byte) is in
    let line : place.line ≡ 1 + line_feeds (take place.at text) = ap (λ (p : TextPlace). p.line) is in
    let short : length text ≤ length (encodes text) = length-le-encodes text in
    record {
      at = omega (arith, short, within, size);
      byte = omega (arith, parts, byte, bytes, bytes_further text place.at n, size);
      line = omega (arith, short, within, size, line, passed, count_by-le-length (λ c. c == 10) (take place.at text), length-take place.at text);
    }

pub later : (text : List ℕ) (place : TextPlace) (n b k : ℕ) → place ≡ place_at text place.at → b ≡ length (encodes (take n (drop place.at text))) → k ≡ line_feeds (take n (drop place.at text))
    → record { at = place.at + n; byte = place.byte + b; line = place.line + k } ≡ place_at text (place.at + n)
later text place n b k is bytes passed =
    let byte : place.byte ≡ length (encodes (take place.at text)) = ap (λ (p : TextPlace). p.byte) is in
    let line : place.line ≡ 1 + line_feeds (take place.at text) = ap (λ (p : TextPlace). p.line) is in
    let all : line_feeds (take (place.at + n) text) ≡ line_feeds (take place.at text) + line_feeds (take n (drop place.at text)) = ap line_feeds (take-add place.at n text) ∙ sum_by-append (λ c. cond (c == 10) 1 0) (take place.at text) (take n (drop place.at text)) in
    let lines : place.line + k ≡ 1 + line_feeds (take (place.at + n) text) = omega arith in
    let length-is : place.byte + b ≡ length (encodes (take (place.at + n) text)) = omega (arith, byte, bytes, bytes_further text place.at n) in
    ap (λ x. record { at = place.at + n; byte = x; line = place.line + k }) length-is ∙ ap (λ l. record { at = place.at + n; byte = length (encodes (take (place.at + n) text)); line = l }) lines

-- LF is no part of a character of more than one byte
high : (b : ℕ) (bs : List ℕ) → 128 ≤ b → line_feeds (b ∷ bs) ≡ line_feeds bs
high b bs h = let no : (b == 10) ≡ false = grind (arith, nat_tests) in sum_by-cons (λ c. cond (c == 10) 1 0) b bs ∙ ap (λ x. cond x 1 0 + line_feeds bs) no ∙ omega arith

none_of_two : (a b : ℕ) → 128 ≤ a → 128 ≤ b → line_feeds (a ∷ b ∷ []) ≡ 0
none_of_two a b h k = high a (b ∷ []) h ∙ high b [] k

none_of_three : (a b c : ℕ) → 128 ≤ a → 128 ≤ b → 128 ≤ c → line_feeds (a ∷ b ∷ c ∷ []) ≡ 0
none_of_three a b c h k l = high a (b ∷ c ∷ []) h ∙ none_of_two b c k l

none_of_four : (a b c d : ℕ) → 128 ≤ a → 128 ≤ b → 128 ≤ c → 128 ≤ d → line_feeds (a ∷ b ∷ c ∷ d ∷ []) ≡ 0
none_of_four a b c d h k l m = high a (b ∷ c ∷ d ∷ []) h ∙ none_of_three b c d k l m

abbrev two : ℕ → List ℕ
two c = (192 + c / 64) ∷ next c ∷ []

abbrev three : ℕ → List ℕ
three c = (224 + c / 4096) ∷ next (c / 64) ∷ next c ∷ []

abbrev four : ℕ → List ℕ
four c = (240 + c / 262144) ∷ next (c / 4096) ∷ next (c / 64) ∷ next c ∷ []

line_feeds_one : (c : ℕ) → line_feeds (encode c) ≡ line_feeds (c ∷ [])
unfolding encode
line_feeds_one c = elim (ltb c 128) as (λ x. ltb c 128 ≡ x → line_feeds (cond x (c ∷ []) (cond (ltb c 2048) (two c) (cond (ltb c 65536) (three c) (four c)))) ≡ line_feeds (c ∷ [])) [
  | true ↦ λ is. refl
  | false ↦ λ is.
      let none : 0 ≡ line_feeds (c ∷ []) = sym (high c [] (grind (arith, nat_tests))) in
      elim (ltb c 2048) as (λ x. line_feeds (cond x (two c) (cond (ltb c 65536) (three c) (four c))) ≡ line_feeds (c ∷ [])) [
        | true ↦ none_of_two (192 + c / 64) (next c) (omega arith) (omega arith) ∙ none
        | false ↦ elim (ltb c 65536) as (λ x. line_feeds (cond x (three c) (four c)) ≡ line_feeds (c ∷ [])) [
          | true ↦ none_of_three (224 + c / 4096) (next (c / 64)) (next c) (omega arith) (omega arith) (omega arith) ∙ none
          | false ↦ none_of_four (240 + c / 262144) (next (c / 4096)) (next (c / 64)) (next c) (omega arith) (omega arith) (omega arith) (omega arith) ∙ none
        ]
      ]
] refl

pub line_feeds_bytes : (cs : List ℕ) → line_feeds (encodes cs) ≡ line_feeds cs
line_feeds_bytes [] = refl
line_feeds_bytes (c ∷ cs) =
    sum_by-append (λ b. cond (b == 10) 1 0) (encode c) (encodes cs)
    ∙ ap (λ n. n + line_feeds (encodes cs)) (line_feeds_one c)
    ∙ ap (λ n. line_feeds (c ∷ []) + n) (line_feeds_bytes cs)
    ∙ sym (sum_by-append (λ b. cond (b == 10) 1 0) (c ∷ []) cs)

-- from one place of a text to a later one
pub record IsBetween (text : List ℕ) (start end : TextPlace) : Type 0 where
  pub less : start.byte ≤ end.byte
  pub bytes : end.byte - start.byte ≡ length (encodes (take (end.at - start.at) (drop start.at text)))

pub between : (text : List ℕ) (start end : TextPlace) → IsPlace text start → IsPlace text end → start.at < end.at → IsBetween text start end
between text start end from to less =
    let first : start.byte ≡ length (encodes (take start.at text)) = ap (λ (p : TextPlace). p.byte) from.1 in
    let last : end.byte ≡ length (encodes (take end.at text)) = ap (λ (p : TextPlace). p.byte) to.1 in
    let sum : start.at + (end.at - start.at) ≡ end.at = omega arith in
    let further : length (encodes (take end.at text)) ≡ length (encodes (take start.at text)) + length (encodes (take (end.at - start.at) (drop start.at text))) =
    ap (λ n. length (encodes (take n text))) (sym sum) ∙ bytes_further text start.at (end.at - start.at) in
    record {
      less = omega (arith, first, last, further);
      bytes = omega (arith, first, last, further);
    }
