use Rattle.guard_store.proofs.Slots.{its_void}
use Rattle.guard_store.proofs.shared.Shared.void.Goals as goal

pub invariant_of-self : goal.invariant_of-self
invariant_of-self g c = its_void _ _ _ _ _ _ c.self.inside.core c.void.new.self c.self.inside.log c.args.session c.recall_consistent.ensures c.void.ensures c.self.invariant
