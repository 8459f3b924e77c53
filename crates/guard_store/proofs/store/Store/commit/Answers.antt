use Rattle.guard_store.proofs.Calling.{reading_counts}
use Rattle.guard_store.proofs.store.Store.commit.Goals as goal

pub returns-clause-steps : goal.returns-clause-steps
returns-clause-steps g c = reading_counts _ _ _ _ _ c.end_reading.ensures
