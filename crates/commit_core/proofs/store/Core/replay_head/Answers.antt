use Rattle.commit_core.proofs.Consistency.{consistent_head}
use Rattle.commit_core.proofs.store.Core.replay_head.Goals as goal

pub invariant_of-self : goal.invariant_of-self
invariant_of-self c = rw c.push.ensures (consistent_head _ _ _ _ c.self.invariant.0 c.self.view_is c.requires c.version.ensures.count, c.self.invariant.1, c.self.invariant.2)
