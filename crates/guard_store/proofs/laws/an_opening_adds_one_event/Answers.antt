use Rattle.guard_store.proofs.Telling as telling
use Rattle.guard_store.proofs.laws.an_opening_adds_one_event.Goals as goal

pub returns : goal.returns
returns c = telling.openings_add_one
