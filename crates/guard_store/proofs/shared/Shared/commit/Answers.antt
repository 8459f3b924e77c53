use Rattle.guard_store.proofs.Slots.{its_committed, its_stands}
use Rattle.guard_store.proofs.shared.Shared.commit.Goals as goal

pub commit_beside-requires-clause-beside : goal.commit_beside-requires-clause-beside
commit_beside-requires-clause-beside g c κs within = its_stands _ _ _ _ _ _ c.self.inside.core c.self.inside.log c.self.invariant

pub invariant_of-self : goal.invariant_of-self
invariant_of-self g c = its_committed _ _ _ _ _ _ c.self.inside.core c.commit_beside.new.core c.self.inside.log c.commit_beside.new.log c.commit_beside.ensures.log c.self.invariant
