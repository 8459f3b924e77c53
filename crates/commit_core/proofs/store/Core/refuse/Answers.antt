use Rattle.commit_core.proofs.Consistency.{consistent_refusal}
use Rattle.commit_core.proofs.store.Core.refuse.Goals as goal

pub invariant_of-self : goal.invariant_of-self
invariant_of-self c = rw c.push.ensures (consistent_refusal _ _ _ _ _ c.self.invariant.0 c.self.view_is c.requires, c.self.invariant.1, c.self.invariant.2)
