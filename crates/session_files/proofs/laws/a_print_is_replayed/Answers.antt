use Rattle.session_files.proofs.Replaying.{replays_print}
use Rattle.session_files.proofs.laws.a_print_is_replayed.Goals as goal

pub returns : goal.returns
returns c = replays_print
