use Rattle.std.proofs.Common.{◌≡◌, ℕ, ◌<◌}
use Rattle.rdf_model.specs.Numbers.{term_at}
use Rattle.constraint_tests.proofs.checks.is_new.Given as goal

abbrev pub invariant-loop-other : goal.invariant-loop-other
invariant-loop-other l = (k : ℕ) → k < l.other → term_at l.terms k ≡ term_at l.terms l.place → ⊥
