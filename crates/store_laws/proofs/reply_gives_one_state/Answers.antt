use Rattle.store_model.proofs.Steps.{ReplyGivesOneState-holds}
use Rattle.store_laws.proofs.reply_gives_one_state.Goals as goal

pub returns : goal.returns
returns c = ReplyGivesOneState-holds
