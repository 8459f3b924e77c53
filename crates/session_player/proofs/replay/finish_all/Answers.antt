use Rattle.std.proofs.Common.{◌++◌, ap, sym, ◌∙◌}
use Rattle.session_player.proofs.Seats.{never_all}
use Rattle.session_player.proofs.replay.finish_all.Goals as goal

pub returns-in-None-2-clause-ends : goal.returns-in-None-2-clause-ends
returns-in-None-2-clause-ends g c =
    let rest = sym (ap (λ ps. c.loop-player.yielded ++ ps) c.in-Some.ensures.steps.0) ∙ c.loop-player.invariant.rest in
    let left = rw c.in-None-2.is at c.in_ok-replies.ensures.replies in
    never_all c.loop-player.yielded _ c.args.players.items c.in-Some.player rest left
