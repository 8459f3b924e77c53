-- The characters that an escaped text stands for, one after another.
use Rattle.std.proofs.Common.{◌≡◌, ◌∙◌, ℕ, zero, suc, ◌-◌, ◌<◌, ◌≤◌, true, false, cond, ◌==◌, ◌||◌, List, [], ◌∷◌, ◌++◌, length, drop, Some, refl, sym, ap, append_assoc, arith}
use Rattle.std.specs.Prelude.{encode_utf8, encode_utf8_all}
use Rattle.std.specs.List.{list_any}
use Rattle.rdf_lexical.specs.Escaping.{escape_at}
use Rattle.rdf_lexical.specs.Meanings.{escaped_character, character_at, next_character, unescaped}

pub skip_escape : (n : ℕ) (cs : List ℕ) → n ≤ length cs → unescaped n cs ≡ unescaped 0 (drop n cs)
skip_escape zero cs h = refl
skip_escape (suc n) [] h = absurd (omega arith)
skip_escape (suc n) (c ∷ cs) h = skip_escape n cs (omega arith)

after_first_one : (n : ℕ) (c : ℕ) (cs : List ℕ) → 0 < n → n ≤ suc (length cs) → unescaped (n - 1) cs ≡ unescaped 0 (drop n (c ∷ cs))
after_first_one zero c cs some most = absurd (omega arith)
after_first_one (suc n) c cs some most = let less : suc n - 1 ≡ n = omega arith in ap (λ k. unescaped k cs) less ∙ skip_escape n cs (omega arith)

-- the next character
next_unescaped : (cs : List ℕ) (c n : ℕ) → 0 < n → n ≤ length cs → Some (c, n) ≡ next_character cs → unescaped 0 cs ≡ encode_utf8 c ++ unescaped 0 (drop n cs)
next_unescaped [] c n some most is = absurd (omega arith)
next_unescaped (d ∷ cs) c n some most is =
    let same : (c, n) ≡ character_at d cs = cc in
    ap (λ (p : ℕ × ℕ). encode_utf8 p.0 ++ unescaped (p.1 - 1) cs) (sym same) ∙ ap (λ r. encode_utf8 c ++ r) (after_first_one n d cs some most)

-- the same behind what was written so far
pub unescaped_step : (old new cs rest : List ℕ) (c n : ℕ) → 0 < n → n ≤ length cs → Some (c, n) ≡ next_character cs → new ≡ old ++ encode_utf8 c → rest ≡ drop n cs → new ++ unescaped 0 rest ≡ old ++ unescaped 0 cs
unescaped_step old new cs rest c n some most is grown left =
    ap (λ t. t ++ unescaped 0 rest) grown
    ∙ ap (λ r. (old ++ encode_utf8 c) ++ unescaped 0 r) left
    ∙ append_assoc old (encode_utf8 c) (unescaped 0 (drop n cs))
    ∙ ap (λ r. old ++ r) (sym (next_unescaped cs c n some most is))

-- a text without a backslash stands for itself
pub no_escape : (cs : List ℕ) → list_any (λ c. c == 92) cs ≡ false → unescaped 0 cs ≡ encode_utf8_all cs
no_escape [] e = refl
no_escape (c ∷ cs) e = elim (c == 92) as (λ b. (b || list_any (λ d. d == 92) cs) ≡ false → (encode_utf8 (cond b (escaped_character (escape_at cs)) (c, 1)).0 ++ unescaped ((cond b (escaped_character (escape_at cs)) (c, 1)).1 - 1) cs) ≡ encode_utf8 c ++ encode_utf8_all cs) [
  | true ↦ λ h. cc
  | false ↦ λ h. ap (λ r. encode_utf8 c ++ r) (no_escape cs h)
] e
