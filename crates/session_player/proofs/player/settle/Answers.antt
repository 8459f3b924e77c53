use Rattle.std.proofs.Common.{◌≢◌, ap, ◌∙◌, None, refl, subst, sym}
use Rattle.store_model.specs.Store.{RecordedStore, IsOpened}
use Rattle.session_model.specs.declared.command.Command.{Command}
use Rattle.session_model.specs.Sessions.{local_answer}
use Rattle.session_player.specs.Players.{Player}
use Rattle.session_player.proofs.Seats.{front_first, settles_step}
use Rattle.session_player.proofs.player.settle.Goals as goal

pub loop-command-preserved : goal.loop-command-preserved
loop-command-preserved g c =
    let i = c.loop-command.invariant in
    let e = c.player-in-loop-command.view_is in
    let d = c.in_ok-play_command.ensures.first in
    let first = front_first _ _ c.in-Some.command.now d.command (ap (λ (x : Player). x.commands) e ∙ d.commands) c.in-Some.ensures.lookup in
    let event = subst (λ (x : Player). local_answer x.current c.in-Some.command.now ≢ None) e c.if-is_event.ensures in
    let opened = subst (λ (s : RecordedStore). IsOpened s.state c.args.session) (sym i.same) c.requires.opened in
    let done = settles_step _ _ _ _ c.args.player.now c.loop-command.player c.play_command.new.player _ _ opened i.same i.state i.free d.commands (subst (λ (x : Command). local_answer c.loop-command.player.current x ≢ None) first event) d.performs refl c.in_ok-play_command.ensures.free in
    record { same = done.0; ready = done.1.0; state = done.1.1; free = c.in_ok-play_command.ensures.free }
