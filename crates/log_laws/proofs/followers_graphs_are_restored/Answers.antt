use Rattle.log_laws.proofs.Followers.{followers_graphs_are_restored}
use Rattle.log_laws.proofs.followers_graphs_are_restored.Goals as goal

pub returns : goal.returns
returns c = followers_graphs_are_restored
