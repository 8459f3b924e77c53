use Rattle.turtle_reader.proofs.Repeats.{repeats_objects}
use Rattle.turtle_reader.proofs.laws.objects_repeat.Goals as goal

pub returns : goal.returns
returns c = repeats_objects
