use Rattle.replica.proofs.Turning.{read_turn, may_leave, same_lock}
use Rattle.replica.proofs.sharing.Replica.read.Goals as goal

pub leave-requires-clause-entry : goal.leave-requires-clause-entry
leave-requires-clause-entry g c =
    let held = c.enter-held.result.0 in
    may_leave c.args.pass held held c.enter-held.result.1 c.read-served.new.self record { held_is = c.enter-held.ensures.held; others = c.enter-held.ensures.added; leads = c.read-served.ensures.led } c.read-served.ensures.one

pub returns-clause-answer : goal.returns-clause-answer
returns-clause-answer g c =
    read_turn c.args.pass c.enter-held.result.0 c.leave.result c.enter-held.result.1 c.read-served.new.self record { held_is = c.enter-held.ensures.held; others = c.enter-held.ensures.added; leads = c.read-served.ensures.led } c.read-served.result
    c.read-served.ensures.answer c.leave.ensures

pub returns-clause-lock : goal.returns-clause-lock
returns-clause-lock g c =
    same_lock c.args.pass c.enter-held.result.0 c.leave.result c.enter-held.result.1 c.read-served.new.self record { held_is = c.enter-held.ensures.held; others = c.enter-held.ensures.added; leads = c.read-served.ensures.led } c.read-served.ensures.one c.leave.ensures
