use Rattle.std.proofs.Common.{refl}
use Rattle.commit_core.proofs.Consistency.{IsConsistent-empty}
use Rattle.commit_core.proofs.NamedTerms.{begins_same, first_names}
use Rattle.commit_core.proofs.store.Core.open.Goals as goal

pub invariant_of-result : goal.invariant_of-result
invariant_of-result c =
    rw (c.in_ok-history.ensures, c.in_ok-commits.ensures.0, c.in_ok-commits.ensures.1, c.in_ok-graph.ensures, first_names, c.new-2.ensures.items, c.new-3.ensures) (IsConsistent-empty c.args.limits c.requires, refl, begins_same _ _ refl)

pub returns : goal.returns
returns c = rw (c.in_ok-history.ensures, c.in_ok-commits.ensures.0, c.in_ok-graph.ensures, first_names, c.new-2.ensures.items, c.new-3.ensures) refl
