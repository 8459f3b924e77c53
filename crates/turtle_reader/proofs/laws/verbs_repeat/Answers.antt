use Rattle.turtle_reader.proofs.Repeats.{repeats_verbs}
use Rattle.turtle_reader.proofs.laws.verbs_repeat.Goals as goal

pub returns : goal.returns
returns c = repeats_verbs
