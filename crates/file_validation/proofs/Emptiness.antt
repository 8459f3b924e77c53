-- Whether a text is empty.
use Rattle.std.proofs.Common.{◌≡◌, ◌∙◌, ℕ, Bool, List, [], ◌∷◌, length, sym, arith}
use Rattle.std.specs.Prelude.{◌↔◌, ◌==◌, IsTrue}
use Rattle.std.proofs.lemmas.Bool.Decides.{nat_tests}

-- the answer of a test by the length, where a text is empty just where P holds
pub by_length : (answer : Bool) (bytes text : List ℕ) (P : Type 0) → answer ≡ (length bytes == 0) → bytes ≡ text → (text ≡ []) ↔ P → IsTrue answer ↔ P
by_length answer [] text P is same e = (λ t. e.0 (sym same), λ p. is)
by_length answer (b ∷ bs) text P is same e = (λ t. absurd (grind (arith, nat_tests, is, t)), λ p. let never = same ∙ e.1 p in cc)
