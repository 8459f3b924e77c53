use Rattle.session_player.proofs.Exact.{replays_again}
use Rattle.session_player.proofs.laws.a_run_is_replayed.Goals as goal

pub returns : goal.returns
returns c = replays_again
