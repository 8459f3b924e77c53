-- Answers, one for each place.
use Rattle.std.specs.Prelude.{◌≡◌, ◌↔◌, ◌<◌, ℕ, Bool, true, false, List, length}
use Rattle.std.proofs.Common.{get_or}
use Rattle.rdf_model.specs.declared.term.Term.{Term}
use Rattle.rdf_model.specs.Numbers.{term_at}

-- the answers say at which of the first n places P holds
pub record Tells (P : ℕ → Type 0) (n : ℕ) (answers : List Bool) : Type 0 where
  pub as_many : length answers ≡ n
  pub each : (i : ℕ) → i < n → (get_or answers i false ≡ true) ↔ P i

-- the answers say of which of the nodes P holds
abbrev pub AreAnswersTo : (Term → Type 0) → List Term → List ℕ → List Bool → Type 0
AreAnswersTo P terms numbers answers = Tells (λ i. P (term_at terms (get_or numbers i 0))) (length numbers) answers
