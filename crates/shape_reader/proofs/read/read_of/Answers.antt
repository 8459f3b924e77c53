use Rattle.std.proofs.Common.{refl}
use Rattle.std.proofs.lemmas.Result.{err_from_is_err_and}
use Rattle.shape_reader.proofs.Requests.{asks_nothing, before_told}
use Rattle.shape_reader.proofs.read.read_of.Goals as goal

pub returns-in-Some : goal.returns-in-Some
returns-in-Some g c = record { answer = (rw c.in-Some.is at c.in_ok-broken.ensures, refl); asked = refl }

pub returns-in_ok-shapes-in-None : goal.returns-in_ok-shapes-in-None
returns-in_ok-shapes-in-None g c = record { answer = (rw c.in-None.is at c.in_ok-broken.ensures, c.in_ok-shapes-in-None.ensures.answer); asked = c.in_ok-shapes-in-None.ensures.asked }

pub returns-in_err-broken-clause-asked : goal.returns-in_err-broken-clause-asked
returns-in_err-broken-clause-asked g c =
    let p = err_from_is_err_and c.from_residual.result c.from_residual.ensures.1 in rw (p.1, p.2) (asks_nothing c.args.graph.now (g.M.Maker.asked c.args.maker.now))

pub returns-in_err-shapes-in-None-clause-asked : goal.returns-in_err-shapes-in-None-clause-asked
returns-in_err-shapes-in-None-clause-asked g c =
    let p = err_from_is_err_and c.from_residual-in_err-shapes-in-None.result c.from_residual-in_err-shapes-in-None.ensures.1 in rw (p.1, p.2) (before_told c.args.graph.now _ _ _ c.in_err-shapes-in-None.ensures.asked)
