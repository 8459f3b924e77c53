use Rattle.std.proofs.Common.{◌<◌, ℕ, List, length, subst}
use Rattle.std.specs.List.{Contains}
use Rattle.constraint_tests.specs.Rows.{Row}
use Rattle.constraint_tests.proofs.case.Case.others.Goals as goal

pub returns-clause-named : goal.returns-clause-named
returns-clause-named c = λ n has.
    let among = subst (λ (ns : List ℕ). Contains ns n) c.deref.ensures.value has in
    subst (λ (r : Row). n < length r.names) c.self.view_is (c.self.invariant.others_named n among)
