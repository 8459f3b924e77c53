use Rattle.std.proofs.Common.{sym, ◌∙◌}
use Rattle.std.specs.Vec.Iter.{into_iter_items}
use Rattle.session_player.proofs.Playing.{all_performed, nothing_left, perform_step}
use Rattle.session_player.proofs.run.perform_all.Goals as goal

pub loop-command-preserved : goal.loop-command-preserved
loop-command-preserved g c = record {
  ready = c.in_ok-current.ensures.ready;
  advances = perform_step _ _ _ _ _ _ _ _ _ _ _ _ c.in-Some.ensures.steps.0 c.loop-command.invariant.advances c.in_ok-current.ensures;
}

pub returns : goal.returns
returns g c =
    let left = c.loop-command.command-iterator in
    all_performed _ _ _ _ (into_iter_items left) _ _ (nothing_left (into_iter_items left) (sym left.rest.ok.0 ∙ c.in-None.ensures.steps.0)) c.loop-command.invariant.ready c.loop-command.invariant.advances
