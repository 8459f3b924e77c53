use Rattle.log_laws.proofs.Restores.{records_restore_commits}
use Rattle.log_laws.proofs.records_restore_commits.Goals as goal

pub returns : goal.returns
returns c = records_restore_commits
