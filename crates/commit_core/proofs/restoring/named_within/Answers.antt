use Rattle.commit_core.proofs.restoring.named_within.Goals as goal

pub returns-in-Err-Full : goal.returns-in-Err-Full
returns-in-Err-Full c = let many = rw c.in-Err-Full.field-0-is at c.in-Err-Full.ensures.cause in c.fault_of_many.ensures c.args.limits many
