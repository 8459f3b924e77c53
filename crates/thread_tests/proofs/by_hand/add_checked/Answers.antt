use Rattle.thread_tests.proofs.by_hand.add_checked.Goals as goal

pub check-early-requires : goal.check-early-requires
check-early-requires g c = (search, (c.args.store.now, c.stage_add-session.ensures.session))

pub head-session-requires : goal.head-session-requires
head-session-requires g c = c.check-early.ensures.session c.args.store.now c.stage_add-session.ensures.session

pub check-kept-requires : goal.check-kept-requires
check-kept-requires g c = (search, (c.args.store.now, c.head-session.ensures.session))

pub returns : goal.returns
returns g c = c.check-kept.ensures.session c.args.store.now c.head-session.ensures.session
