use Rattle.follower.proofs.Accepted.{names_accepted}
use Rattle.follower.proofs.laws.the_terms_are_those_accepted.Goals as goal

pub returns : goal.returns
returns c = names_accepted
