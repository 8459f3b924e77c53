use Rattle.session_threads.proofs.Playing.{on_told, plays_begin}
use Rattle.session_threads.proofs.perform.begin.Goals as goal

pub returns-clause-lock : goal.returns-clause-lock
returns-clause-lock g c = c.begin-session.ensures.session.caller.lock

pub returns-clause-plays : goal.returns-clause-plays
returns-clause-plays g c = on_told _ _ _ _ _ _ c.tell.ensures c.begin_reply-reply.ensures
    (λ r told em. plays_begin c.args.store.now c.args.session c.begin-session.result.0 c.begin-session.result.1 r _ _ c.requires c.begin-session.ensures.session c.begin-session.ensures.begins told em)
