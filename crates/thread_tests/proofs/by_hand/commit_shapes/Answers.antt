use Rattle.thread_tests.proofs.by_hand.commit_shapes.Goals as goal

pub check-kept-requires : goal.check-kept-requires
check-kept-requires g c = (search, (c.args.store.now, c.head-session.ensures.session))

pub commit-session-requires : goal.commit-session-requires
commit-session-requires g c = (search, c.check-kept.ensures.session c.args.store.now c.head-session.ensures.session)
