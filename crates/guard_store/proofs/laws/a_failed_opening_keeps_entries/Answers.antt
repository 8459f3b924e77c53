use Rattle.guard_store.proofs.Meeting.{failed_openings_keep_entries}
use Rattle.guard_store.proofs.laws.a_failed_opening_keeps_entries.Goals as goal

pub returns : goal.returns
returns c = failed_openings_keep_entries
