use Rattle.session_player.proofs.Exact.{never_both}
use Rattle.session_player.proofs.laws.a_run_has_no_bad_place.Goals as goal

pub returns : goal.returns
returns c = never_both
