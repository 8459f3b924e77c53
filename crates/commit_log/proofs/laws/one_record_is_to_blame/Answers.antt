use Rattle.commit_log.proofs.Stops.{one_is_to_blame}
use Rattle.commit_log.proofs.laws.one_record_is_to_blame.Goals as goal

pub returns : goal.returns
returns c = one_is_to_blame
