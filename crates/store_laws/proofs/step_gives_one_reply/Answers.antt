use Rattle.store_model.proofs.Steps.{StepGivesOneReply-holds}
use Rattle.store_laws.proofs.step_gives_one_reply.Goals as goal

pub returns : goal.returns
returns c = StepGivesOneReply-holds
