use Rattle.commit_core.proofs.Consistency.{commit_full, commit_overtaken}
use Rattle.commit_core.proofs.Work.{by_results}
use Rattle.commit_core.proofs.store.Core.commit_by_plan.Goals as goal

pub refuse-requires : goal.refuse-requires
refuse-requires g c =
    let p = rw c.in-Ok-Overtaken.field-0-is at c.in-Ok-Overtaken.ensures.plan in
    rw c.into_transaction.ensures (commit_overtaken c.args.self.now c.args.session c.args.reasoned.checked.transaction c.in-Ok-Overtaken.overtaker c.requires.running c.requires.opened c.requires.committable p.0)

pub refuse-requires-in-Ok-TooLarge : goal.refuse-requires-in-Ok-TooLarge
refuse-requires-in-Ok-TooLarge g c =
    let p = rw c.in-Ok-TooLarge.field-0-is at c.in-Ok-TooLarge.ensures.plan in
    rw c.into_transaction-in-Ok-TooLarge.ensures (commit_full c.args.self.now c.args.session c.args.reasoned.checked.transaction c.in-Ok-TooLarge.count c.requires.running c.requires.opened c.requires.committable p.0 p.1 p.2)

pub returns-in-Ok-Refuse-clause-steps : goal.returns-in-Ok-Refuse-clause-steps
returns-in-Ok-Refuse-clause-steps g c =
    by_results c.args.held c.args.reasoned.reasons.answer c.args.self.now.state c.args.reasoned.checked.transaction c.args.steps.now c.plan.new.steps c.refuse_invalid.result c.refuse_invalid.ensures.by_results (rw c.in-Ok-Refuse.field-0-is at c.in-Ok-Refuse.ensures.steps) c.plan.ensures.counted

pub returns-in-Ok-Accept-clause-steps : goal.returns-in-Ok-Accept-clause-steps
returns-in-Ok-Accept-clause-steps g c =
    by_results c.args.held c.args.reasoned.reasons.answer c.args.self.now.state c.args.reasoned.checked.transaction c.args.steps.now c.plan.new.steps c.accept.result c.accept.ensures.by_results (rw c.in-Ok-Accept.field-0-is at c.in-Ok-Accept.ensures.steps) c.plan.ensures.counted
