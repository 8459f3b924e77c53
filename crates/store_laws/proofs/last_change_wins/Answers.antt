use Rattle.store_laws.proofs.Changes.{last_change_wins}
use Rattle.store_laws.proofs.last_change_wins.Goals as goal

pub returns : goal.returns
returns c = last_change_wins
