use Rattle.std.proofs.Common.{rules}
use Rattle.commit_core.proofs.restoring.changed_by.Goals as goal

pub returns : goal.returns
returns c = search rules
