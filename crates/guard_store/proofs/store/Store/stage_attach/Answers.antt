use Rattle.guard_store.proofs.Calling.{attach_answered}
use Rattle.guard_store.proofs.store.Store.stage_attach.Goals as goal

pub returns-clause-attaches : goal.returns-clause-attaches
returns-clause-attaches g c = attach_answered c.args.self.now c.args.session c.stage_copied.result.0 c.args.triples.now c.stage_copied.result.1 c.stage_copied.ensures.stages
