use Rattle.session_threads.proofs.Playing.{aborted_pass, on_said, plays_abort}
use Rattle.session_threads.proofs.perform.abort.Goals as goal

pub returns-clause-lock : goal.returns-clause-lock
returns-clause-lock g c = aborted_pass c.args.store.now c.args.session c.abort.new.self c.abort.result c.requires c.abort.ensures

pub returns-clause-plays : goal.returns-clause-plays
returns-clause-plays g c = on_said _ _ _ _ _ c.tell.ensures
    (λ em. plays_abort c.args.store.now c.args.session c.abort.new.self c.abort.result c.abort_reply-reply.result _ _ c.requires c.abort.ensures c.abort_reply-reply.ensures em)
