use Rattle.session_laws.proofs.Running as running
use Rattle.session_laws.proofs.following_runs.Goals as goal

pub returns : goal.returns
returns c = running.following_runs
