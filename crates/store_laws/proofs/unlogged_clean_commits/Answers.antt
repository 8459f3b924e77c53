use Rattle.store_laws.proofs.Commits.{unlogged_clean_commits}
use Rattle.store_laws.proofs.unlogged_clean_commits.Goals as goal

pub returns : goal.returns
returns c = unlogged_clean_commits
