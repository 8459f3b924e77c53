use Rattle.std.proofs.Common.{refl, ◌≤◌}
use Rattle.commit_core.proofs.Consistency.{IsConsistent-step, at_fields}
use Rattle.commit_core.proofs.store.Core.void.Goals as goal

pub invariant_of-self : goal.invariant_of-self
invariant_of-self c = rw c.push.ensures (IsConsistent-step _ _ _ c.self.invariant.0 (at_fields _ _ (λ s. c.args.session ≤ s.state.opened) c.self.view_is c.requires, (refl, refl)), c.self.invariant.1, c.self.invariant.2)
