use Rattle.store_laws.proofs.Commits.{clean_commits_are_accepted}
use Rattle.store_laws.proofs.clean_commits_are_accepted.Goals as goal

pub returns : goal.returns
returns c = clean_commits_are_accepted
