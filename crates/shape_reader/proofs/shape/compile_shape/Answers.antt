use Rattle.std.proofs.lemmas.Result.{err_from_is_err_and}
use Rattle.shape_reader.proofs.Requests.{any_maybe}
use Rattle.shape_reader.proofs.shape.compile_shape.Goals as goal

pub returns-in_err-parts-clause-asked : goal.returns-in_err-parts-clause-asked
returns-in_err-parts-clause-asked g c =
    let p = err_from_is_err_and c.from_residual-in_err-parts.result c.from_residual-in_err-parts.ensures.1 in
    rw (p.1, p.2) (any_maybe c.args.shape.now.graph c.args.shape.now.node _ _ c.in_ok-path.ensures.asked)
