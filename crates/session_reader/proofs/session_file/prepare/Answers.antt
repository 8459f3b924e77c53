use Rattle.std.proofs.lemmas.Result.{err_from_is_err_and}
use Rattle.session_reader.proofs.Asks.{vain_first, vain_none}
use Rattle.session_reader.proofs.session_file.prepare.Goals as goal

pub returns-in_err-read-clause-asked : goal.returns-in_err-read-clause-asked
returns-in_err-read-clause-asked g c =
    let p = err_from_is_err_and c.from_residual.result c.from_residual.ensures.1 in
    rw p.1 (vain_none c.args.session c.args.first c.args.bytes.now p.0 (g.M.Maker.refused c.args.maker.now) (g.M.Maker.asked c.args.maker.now))

pub returns-in_err-commands-clause-asked : goal.returns-in_err-commands-clause-asked
returns-in_err-commands-clause-asked g c =
    let p = err_from_is_err_and c.from_residual-in_err-commands.result c.from_residual-in_err-commands.ensures.1 in
    rw (p.1, p.2) (vain_first c.args.session c.args.first c.args.bytes.now c.in_ok-read.read _ _ _ _ c.in_ok-read.ensures c.in_err-commands.ensures.asked)

pub returns-clause-asked : goal.returns-clause-asked
returns-clause-asked g c = (c.in_ok-read.read, c.in_ok-read.ensures, c.in_ok-commands.ensures.asked)
