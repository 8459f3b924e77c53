use Rattle.replica.proofs.Keeping.{replica_follows}
use Rattle.replica.proofs.laws.a_replica_follows_a_leader.Goals as goal

pub returns : goal.returns
returns c = replica_follows
