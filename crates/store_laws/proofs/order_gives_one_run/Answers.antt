use Rattle.session_model.proofs.Walking.{HasReplies-deterministic}
use Rattle.store_laws.proofs.order_gives_one_run.Goals as goal

pub returns : goal.returns
returns c = HasReplies-deterministic
