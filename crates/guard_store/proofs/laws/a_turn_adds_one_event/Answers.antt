use Rattle.guard_store.proofs.Telling as telling
use Rattle.guard_store.proofs.laws.a_turn_adds_one_event.Goals as goal

pub returns : goal.returns
returns c = telling.turns_add_one
