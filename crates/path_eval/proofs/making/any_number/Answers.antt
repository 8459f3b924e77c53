use Rattle.std.proofs.lemmas.Result.{IfOk-weaker}
use Rattle.path_eval.specs.declared.walker.Walker.{Here}
use Rattle.path_eval.specs.Walkers.{IsAnyNumber, IsEither}
use Rattle.path_eval.proofs.Made.{any_number}
use Rattle.path_eval.proofs.making.any_number.Goals as goal

pub returns : goal.returns
returns c = IfOk-weaker c.either_of.result (λ w. IsEither Here c.in_ok-more.more w) (λ w. IsAnyNumber c.args.once w) (λ w e. any_number c.args.once c.in_ok-more.more w c.in_ok-more.ensures e) c.either_of.ensures
