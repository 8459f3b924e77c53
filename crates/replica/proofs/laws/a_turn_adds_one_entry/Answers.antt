use Rattle.replica.proofs.Turning.{adds_one}
use Rattle.replica.proofs.laws.a_turn_adds_one_entry.Goals as goal

pub returns : goal.returns
returns c = adds_one
