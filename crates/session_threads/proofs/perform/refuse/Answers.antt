use Rattle.session_threads.proofs.Playing.{on_said, plays_refused}
use Rattle.session_threads.proofs.perform.refuse.Goals as goal

pub returns-clause-plays : goal.returns-clause-plays
returns-clause-plays g c = on_said _ _ _ _ _ c.tell.ensures
    (λ em. plays_refused c.args.store.now c.args.session c.args.command.now c.in-Ok.refusal _ _ c.requires.session c.in-Ok.ensures (rw c.local_reply-reply.ensures at em))
