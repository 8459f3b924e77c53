use Rattle.std.proofs.Common.{sym, ◌∙◌}
use Rattle.std.specs.Vec.Iter.{into_iter_items}
use Rattle.session_player.proofs.Playing.{nothing_left}
use Rattle.session_threads.proofs.Playing.{play_step, plays_all, plays_ok}
use Rattle.session_threads.proofs.play.play_in.Goals as goal

pub loop-command-preserved : goal.loop-command-preserved
loop-command-preserved g c =
    let p = plays_ok _ _ _ _ _ _ c.perform-next.result.1 c.in-Ok.is c.perform-next.ensures.plays in
    record {
      session = p.session;
      number = p.number ∙ c.loop-command.invariant.number;
      goes = play_step c.args.store.now c.args.session c.loop-command.session _ c.args.commands _ _ _ _ _ c.in-Some.ensures.steps.0 c.loop-command.invariant.goes p;
    }

pub returns-clause-lock : goal.returns-clause-lock
returns-clause-lock g c = c.loop-command.invariant.session.caller.lock

pub returns-clause-plays : goal.returns-clause-plays
returns-clause-plays g c =
    let left = c.loop-command.command-iterator in
    plays_all c.args.store.now c.args.session c.loop-command.session c.args.commands (into_iter_items left) c.loop-command.replies (nothing_left (into_iter_items left) (sym left.rest.ok.0 ∙ c.in-None.ensures.steps.0)) c.loop-command.invariant.session c.loop-command.invariant.number c.loop-command.invariant.goes
