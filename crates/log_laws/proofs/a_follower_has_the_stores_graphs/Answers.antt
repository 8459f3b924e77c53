use Rattle.log_laws.proofs.Followers.{a_follower_has_the_stores_graphs}
use Rattle.log_laws.proofs.a_follower_has_the_stores_graphs.Goals as goal

pub returns : goal.returns
returns c = a_follower_has_the_stores_graphs
