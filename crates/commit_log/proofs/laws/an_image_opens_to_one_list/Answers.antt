use Rattle.commit_log.proofs.Stops.{opens_to_one}
use Rattle.commit_log.proofs.laws.an_image_opens_to_one_list.Goals as goal

pub returns : goal.returns
returns c = opens_to_one
