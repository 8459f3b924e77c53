use Rattle.commit_log.proofs.Stops.{no_log_is_bad}
use Rattle.commit_log.proofs.laws.a_log_is_not_bad.Goals as goal

pub returns : goal.returns
returns c = no_log_is_bad
