-- Lemmas on lists of digits.
use Rattle.std.proofs.Common.{◌≡◌, ℕ, zero, suc, ◌+◌, ◌-◌, ◌*◌, ◌^◌, ◌<◌, true, false, cond, List, [], ◌∷◌, take, drop, lit<, pow-suc, refl, add_comm, add-one, sym, ap, ◌∙◌, arith}
use Rattle.std.specs.Char.{is_ascii_digit}
use Rattle.std.specs.List.{prefix_len}
use Rattle.std.proofs.lemmas.Bool.{and_parts, and_from, eqb-true}
use Rattle.std.proofs.lemmas.Nat.{pow-add}
use Rattle.std.proofs.Math.Nat.{mul-lt-mul_of_pos_right}
use Rattle.literal_order.specs.Digits.{are_digits, are_zeros, number, number_after}

pub are_digits-drop : (k : ℕ) (ds : List ℕ) → are_digits ds ≡ true → are_digits (drop k ds) ≡ true
are_digits-drop zero ds h = h
are_digits-drop (suc k) [] h = refl
are_digits-drop (suc k) (c ∷ cs) h = are_digits-drop k cs (and_parts (is_ascii_digit c) (are_digits cs) h).1

pub are_digits-take : (k : ℕ) (ds : List ℕ) → are_digits ds ≡ true → are_digits (take k ds) ≡ true
are_digits-take zero ds h = refl
are_digits-take (suc k) [] h = refl
are_digits-take (suc k) (c ∷ cs) h =
    let p = and_parts (is_ascii_digit c) (are_digits cs) h in
    and_from (is_ascii_digit c) (are_digits (take k cs)) p.0 (are_digits-take k cs p.1)

-- zeros in front don't count
pub number-drop_zeros : (k : ℕ) (ds : List ℕ) → are_zeros (take k ds) ≡ true → number (drop k ds) ≡ number ds
number-drop_zeros zero ds h = refl
number-drop_zeros (suc k) [] h = refl
number-drop_zeros (suc k) (c ∷ cs) h =
    let p = and_parts _ (are_zeros (take k cs)) h in
    let e : c ≡ 48 = eqb-true c 48 p.0 in
    number-drop_zeros k cs p.1 ∙ ap (λ d. number_after (10 * 0 + (d - 48)) cs) (sym e)

-- what a text begins with up to the first other byte are digits
pub are_digits_leading : (xs : List ℕ) → are_digits (take (prefix_len is_ascii_digit xs) xs) ≡ true
are_digits_leading [] = refl
are_digits_leading (c ∷ cs) =
    elim (is_ascii_digit c) as (λ b. is_ascii_digit c ≡ b → are_digits (take (cond b (1 + prefix_len is_ascii_digit cs) 0) (c ∷ cs)) ≡ true) [
      | true ↦ λ e. rw (add_comm 1 (prefix_len is_ascii_digit cs), add-one) (and_from (is_ascii_digit c) _ e (are_digits_leading cs))
      | false ↦ λ e. refl
    ] refl

pub ten_pos : (k : ℕ) → 0 < 10 ^ k
ten_pos zero = lit< tt
ten_pos (suc k) = let before = ten_pos k in rw pow-suc (omega arith)

pub scaled_below : (n l k places : ℕ) → n < 10 ^ l → l + k ≡ places → n * 10 ^ k < 10 ^ places
scaled_below n l k places h e =
    let positive : 0 < 10 ^ k = ten_pos k in
    let scaled : n * 10 ^ k < 10 ^ l * 10 ^ k = mul-lt-mul_of_pos_right h positive in
    let same : 10 ^ places ≡ 10 ^ l * 10 ^ k = ap (λ p. 10 ^ p) (sym e) ∙ pow-add 10 l k in
    rw same scaled

pub ruleset parts_of_digits = (are_digits-drop, are_digits-take, number-drop_zeros)
