use Rattle.std.proofs.Common.{◌≡◌, ℕ, ◌<◌}
use Rattle.rdf_model.specs.Numbers.{term_at}
use Rattle.constraint_tests.proofs.checks.are_distinct.Given as goal

abbrev pub invariant-loop-place : goal.invariant-loop-place
invariant-loop-place l = (n : ℕ) → n < l.place → (k : ℕ) → k < n → term_at l.terms k ≡ term_at l.terms n → ⊥
