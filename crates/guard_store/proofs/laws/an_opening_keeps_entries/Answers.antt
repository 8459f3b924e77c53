use Rattle.guard_store.proofs.Meeting.{openings_keep_entries}
use Rattle.guard_store.proofs.laws.an_opening_keeps_entries.Goals as goal

pub returns : goal.returns
returns c = openings_keep_entries
