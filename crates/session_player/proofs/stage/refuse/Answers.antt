use Rattle.session_player.proofs.Playing.{performs_refused}
use Rattle.session_player.proofs.stage.refuse.Goals as goal

pub returns : goal.returns
returns c = performs_refused _ _ _ _ _ _ _ c.in_ok-reply.ensures c.requires.ready c.in_ok-answer_only.ensures
