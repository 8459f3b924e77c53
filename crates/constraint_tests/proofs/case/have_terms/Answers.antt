use Rattle.std.proofs.Common.{ℕ, List, subst, sym}
use Rattle.std.specs.List.{Contains}
use Rattle.constraint_tests.proofs.case.have_terms.Goals as goal

pub returns-clause-others : goal.returns-clause-others
returns-clause-others c = λ t n has. c.are_named.ensures t n (subst (λ (ns : List ℕ). Contains ns n) (sym c.deref.ensures.value) has)
