use Rattle.follower.proofs.Leaders.{follows_leader}
use Rattle.follower.proofs.laws.a_follower_has_the_leaders_graphs.Goals as goal

pub returns : goal.returns
returns c = follows_leader
