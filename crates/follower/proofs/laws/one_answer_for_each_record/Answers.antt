use Rattle.follower.proofs.OneAnswer.{answers_once}
use Rattle.follower.proofs.laws.one_answer_for_each_record.Goals as goal

pub returns : goal.returns
returns c = answers_once
