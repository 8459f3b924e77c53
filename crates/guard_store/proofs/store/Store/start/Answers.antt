use Rattle.guard_store.proofs.Turning.{enters, enters_with}
use Rattle.guard_store.proofs.store.Store.start.Goals as goal

pub returns-clause-entered : goal.returns-clause-entered
returns-clause-entered g c = enters c.args.self.now c.args.pass c.enter-held.result.0 c.enter-held.result.1.core c.enter-held.result.1.origin c.requires.opening c.enter-held.ensures.held c.enter-held.ensures.added c.enter-held.ensures.comes c.recall_consistent.ensures.replays

pub returns-clause-origin : goal.returns-clause-origin
returns-clause-origin g c = enters_with c.args.self.now c.args.pass c.enter-held.result.1.core c.enter-held.result.1.origin c.requires.opening c.enter-held.ensures.comes
