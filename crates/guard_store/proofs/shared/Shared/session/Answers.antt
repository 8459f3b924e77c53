use Rattle.guard_store.proofs.Slots.{its_opened}
use Rattle.guard_store.proofs.shared.Shared.session.Goals as goal

pub invariant_of-self : goal.invariant_of-self
invariant_of-self g c = its_opened _ _ _ _ _ _ c.self.inside.core c.session.new.self c.self.inside.log c.session.result c.recall_consistent.ensures c.session.ensures c.self.invariant
