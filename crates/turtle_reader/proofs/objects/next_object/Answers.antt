use Rattle.std.proofs.lemmas.Result.{err_from_is_err_and}
use Rattle.turtle_reader.proofs.Machine.{refuses_same, goes_by, object_next, object_token}
use Rattle.turtle_reader.proofs.objects.next_object.Goals as goal

pub returns-in_err-token-clause-goes : goal.returns-in_err-token-clause-goes
returns-in_err-token-clause-goes c = let p = err_from_is_err_and c.from_residual.result c.from_residual.ensures.1 in rw (p.1, p.2)
    (refuses_same _ _ _ _ (object_next c.args.text.now c.args.brackets.now.levels c.args.brackets.now.frames c.args.state.now) c.in_err-token.ensures.reads)

pub returns-clause-goes : goal.returns-clause-goes
returns-clause-goes c = goes_by c.after_token.result _ _ _
    (object_token c.args.text.now c.args.brackets.now.levels c.args.brackets.now.frames c.args.state.now c.next.new.state c.in_ok-token.token c.in_ok-token.ensures.reads)
    c.after_token.ensures.goes
