use Rattle.store_laws.proofs.Changes.{changed_ascends}
use Rattle.store_laws.proofs.changed_ascends.Goals as goal

pub returns : goal.returns
returns c = changed_ascends
