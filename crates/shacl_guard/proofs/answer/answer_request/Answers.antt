use Rattle.std.proofs.Common.{refl}
use Rattle.shacl_guard.specs.declared.answer.Answer.{Answer}
use Rattle.shacl_guard.proofs.Answering.{follower_asked, same_grows}
use Rattle.shacl_guard.proofs.answer.answer_request.Goals as goal

pub returns-in-Following-clause-answer : goal.returns-in-Following-clause-answer
returns-in-Following-clause-answer g c =
    follower_asked (λ (a : Answer). a.status) (λ (a : Answer). a.text) _ _ _ _ _ c.answer_following.result c.in-Following.is (c.answer_following.ensures (g.M.Maker.refused c.args.maker.now))

pub returns-in-Following-clause-refused : goal.returns-in-Following-clause-refused
returns-in-Following-clause-refused g c = same_grows _ _ refl
