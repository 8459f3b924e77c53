use Rattle.session_threads.proofs.Playing.{listed, on_told, plays_reading}
use Rattle.session_threads.proofs.perform.end_reading.Goals as goal

pub commit_reply-reply-requires : goal.commit_reply-reply-requires
commit_reply-reply-requires g c = listed c.args.store.now c.args.session c.commit-session.result.0 c.commit-session.result.1 c.commit-session.ensures.commits

pub returns-clause-lock : goal.returns-clause-lock
returns-clause-lock g c = c.commit-session.ensures.session.caller.lock

pub returns-clause-plays : goal.returns-clause-plays
returns-clause-plays g c = on_told _ _ _ _ _ _ c.tell.ensures c.commit_reply-reply.ensures
    (λ r told em. plays_reading c.args.store.now c.args.session c.commit-session.result.0 c.commit-session.result.1 r _ _ c.requires.session c.commit-session.ensures.session c.requires.reads c.commit-session.ensures.commits told em)
