use Rattle.turtle_reader.proofs.Repeats.{repeats_members}
use Rattle.turtle_reader.proofs.laws.members_repeat.Goals as goal

pub returns : goal.returns
returns c = repeats_members
