use Rattle.std.proofs.Common.{ℕ, List, eqb, rules, sym, subst}
use Rattle.std.specs.List.{IsDistinct}
use Rattle.path_eval.proofs.Visiting.{none_twice}
use Rattle.path_eval.proofs.visited.Visited.new.Goals as goal

pub invariant_of-result : goal.invariant_of-result
invariant_of-result c = (subst (λ (l : List ℕ). IsDistinct eqb l) (sym c.new.ensures.items) none_twice, search rules)
