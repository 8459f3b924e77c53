use Rattle.guard_store.proofs.Telling as telling
use Rattle.guard_store.proofs.laws.a_meeting_keeps_both_fronts.Goals as goal

pub returns : goal.returns
returns c = telling.meetings_keep_fronts
