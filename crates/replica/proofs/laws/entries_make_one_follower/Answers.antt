use Rattle.replica.proofs.Keeping.{one_follower}
use Rattle.replica.proofs.laws.entries_make_one_follower.Goals as goal

pub returns : goal.returns
returns c = one_follower
