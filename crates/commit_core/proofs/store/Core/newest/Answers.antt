use Rattle.commit_core.proofs.store.Core.newest.Goals as goal

pub sharing-requires : goal.sharing-requires
sharing-requires c = rw c.version.ensures.count c.self.invariant.0.sound
