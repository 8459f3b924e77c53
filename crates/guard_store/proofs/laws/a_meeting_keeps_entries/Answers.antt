use Rattle.guard_store.proofs.Meeting.{meetings_keep_entries}
use Rattle.guard_store.proofs.laws.a_meeting_keeps_entries.Goals as goal

pub returns : goal.returns
returns c = meetings_keep_entries
