use Rattle.std.proofs.Common.{refl}
use Rattle.shacl_guard.proofs.Answering.{follower_gives, follower_stops}
use Rattle.shacl_guard.proofs.answer.answer_following.Goals as goal

pub returns-in-Ok-from_string : goal.returns-in-Ok-from_string
returns-in-Ok-from_string g c = λ refused. follower_gives _ _ _ _ _ _ (c.in-Ok.ensures refused) c.in-Ok-from_string.ensures refl

pub returns-in-Err-from_string : goal.returns-in-Err-from_string
returns-in-Err-from_string g c = λ refused. follower_stops _ _ _ _ _ (c.in-Ok.ensures refused) refl
