use Rattle.std.proofs.Common.{rules, ◌≡◌, ap, get_or, length, subst, sym, ◌∙◌}
use denote.Exit.{no}
use denote.Param.Send.{arg_send, param_send}
use Rattle.session_threads.specs.Team.{HasPlayedFile, TeamPlayer}
use Rattle.session_threads.proofs.Gathering.{each_ended}
use Rattle.session_threads.proofs.Sending.{closure_sync, player_send}
use Rattle.session_threads.proofs.team.play_all.Goals as goal

pub for_each_mut-requires-send-T : goal.for_each_mut-requires-send-T
for_each_mut-requires-send-T g c κs within = param_send _ _ (arg_send _ no _ (player_send _ _ c.type_bounds.send-D))

pub for_each_mut-requires-sync-F : goal.for_each_mut-requires-sync-F
for_each_mut-requires-sync-F g c κs within = closure_sync _ _ _ _ _ _ _ _ _ _ c.type_bounds.sync-R c.type_bounds.sync-G c.type_bounds.send-D

pub returns-clause-players : goal.returns-clause-players
returns-clause-players g c =
    let store = c.args.store.now in
    let olds = c.args.players.now in
    let news = c.for_each_mut.new.s in
    let count : length news ≡ length olds = search rules in
    each_ended store olds news count c.requires.numbers
    (λ k d lt.
    let at = (c.for_each_mut.ensures k d lt).1 in
    subst (HasPlayedFile store (get_or olds k d).commands) at.left (subst (λ (p : TeamPlayer). HasPlayedFile store p.commands at.after_call.now) at.argument_is at.call.0))
    (λ k d lt.
    let at = (c.for_each_mut.ensures k d lt).1 in
    ap (λ (p : TeamPlayer). p.number) (sym at.left) ∙ (at.call.1 ∙ ap (λ (p : TeamPlayer). p.number) at.argument_is))
