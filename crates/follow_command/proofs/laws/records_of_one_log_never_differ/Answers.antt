use Rattle.follow_command.proofs.Differing.{none_differ}
use Rattle.follow_command.proofs.laws.records_of_one_log_never_differ.Goals as goal

pub returns : goal.returns
returns c = none_differ
