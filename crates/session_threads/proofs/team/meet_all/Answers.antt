use Rattle.std.proofs.Common.{rules, List, Option, ◌≡◌, ◌+◌, ap, sym, ◌∙◌, arith, vec_len}
use Rattle.session_model.specs.declared.reply.SessionReply.{SessionReply}
use Rattle.guard_store.specs.Sessions.{StoreSession}
use Rattle.session_threads.specs.Team.{HasLock, TeamPlayer}
use Rattle.session_threads.proofs.Gathering.{all_left, here_lock, of_last}
use Rattle.session_threads.proofs.team.meet_all.Goals as goal

pub meet-keeper-requires-clause-session : goal.meet-keeper-requires-clause-session
meet-keeper-requires-clause-session g c =
    let here : HasLock c.args.store.now c.in-Some.player = of_last (λ _ (w : TeamPlayer). HasLock c.args.store.now w) _ c.pop.new.self.items _ c.in-Some.ensures.items c.loop-player.invariant.2 in
    here_lock c.args.store.now c.in-Some.player.session c.unwrap.result (ap (λ (p : Option StoreSession × Option (List SessionReply)). p.0) (sym c.into_parts-session.ensures) ∙ c.unwrap.ensures) here

pub loop-player-preserved : goal.loop-player-preserved
loop-player-preserved g c =
    let i = c.loop-player.invariant in
    let before : vec_len c.loop-player.players ≡ vec_len c.pop.new.self + 1 = search rules in (
      c.meet-keeper.ensures.keeper,
      omega (arith, i.1, before, ap (λ x. x.pass.spare) c.meet-keeper.ensures.met),
      all_left (λ _ (w : TeamPlayer). HasLock c.args.store.now w) _ c.pop.new.self.items _ c.in-Some.ensures.items i.2,
    )
