use Rattle.session_threads.proofs.Playing.{checked_ready, listed, on_told, plays_work}
use Rattle.session_threads.proofs.perform.commit_work.Goals as goal

pub check-checked-requires : goal.check-checked-requires
check-checked-requires g c = (c.type_bounds.sync-R, (c.args.store.now, c.head-session.ensures.session))

pub commit-session-requires : goal.commit-session-requires
commit-session-requires g c = (c.type_bounds.sync-R, c.check-checked.ensures.session c.args.store.now c.head-session.ensures.session)

pub commit_reply-reply-requires : goal.commit_reply-reply-requires
commit_reply-reply-requires g c = listed c.args.store.now c.check-checked.new.self c.commit-session.result.0 c.commit-session.result.1 c.commit-session.ensures.commits

pub returns-clause-lock : goal.returns-clause-lock
returns-clause-lock g c = c.commit-session.ensures.session.caller.lock

pub returns-clause-plays : goal.returns-clause-plays
returns-clause-plays g c = on_told _ _ _ _ _ _ c.tell.ensures c.commit_reply-reply.ensures
    (λ r told em. plays_work c.args.store.now c.args.session c.check-checked.new.self c.commit-session.result.0 _ c.commit-session.result.1 r _ _ c.requires.session (c.check-checked.ensures.session c.args.store.now c.head-session.ensures.session) c.commit-session.ensures.session c.requires.work
    (checked_ready _ _ _ _ _ _ _ _ c.in-Ok.is c.head-session.ensures.heads c.in-Ok-checked.is c.check-checked.ensures.checks) c.commit-session.ensures.commits told em)
