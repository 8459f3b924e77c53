-- Numbers that grow past the last character.
use Rattle.std.proofs.Common.{◌≡◌, ℕ, ◌+◌, ◌*◌, ◌<◌, List, [], ◌∷◌, Some, None, refl, sym, ap, ◌∙◌, arith}
use Rattle.std.proofs.lemmas.Bool.Decides.{nat_tests}
use Rattle.rdf_lexical.specs.Escapes.{digit_then, hex_value, hex_number_from, scalar_of}

too_large : (n : ℕ) → 0x10FFFF < n → scalar_of (Some n) ≡ None
too_large n h = grind (arith, nat_tests)

-- more digits make a number no smaller
pub stays_too_large : (cs : List ℕ) (n : ℕ) → 0x10FFFF < n → scalar_of (hex_number_from n cs) ≡ None
stays_too_large [] n h = too_large n h
stays_too_large (c ∷ cs) n h = elim (hex_value c) as (λ o. scalar_of (digit_then o (λ v. hex_number_from (16 * n + v) cs)) ≡ None) [
  | None ↦ refl
  | Some v ↦ stays_too_large cs (16 * n + v) (omega arith)
]

-- the next digit
pub next_digit : (cs after : List ℕ) (n d v : ℕ) → cs ≡ d ∷ after → Some v ≡ hex_value d → hex_number_from n cs ≡ hex_number_from (16 * n + v) after
next_digit cs after n d v is e = ap (hex_number_from n) is ∙ ap (λ o. digit_then o (λ w. hex_number_from (16 * n + w) after)) (sym e)
