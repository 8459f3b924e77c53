use Rattle.std.proofs.Common.{◌+◌, drop, map}
use Rattle.std.proofs.lemmas.Result.{err_from_is_err_and}
use Rattle.session_reader.specs.SelectBlock.{patterns_from}
use Rattle.session_reader.proofs.Selects.{fails_line, next_line}
use Rattle.session_reader.proofs.select_block.patterns_of.Goals as goal

pub returns-in_err-push_pattern : goal.returns-in_err-push_pattern
returns-in_err-push_pattern c =
    let names = map (λ n. n.now) c.args.names.now in
    let rest = map (λ l. l.now) (drop (c.loop-i.i + 1) c.args.lines.now) in
    let p = err_from_is_err_and c.from_residual.result c.from_residual.ensures.1 in
    rw (p.1, p.2) (fails_line _ names c.loop-i.patterns (c.loop-i.i + 1) _ _ rest _ (next_line (λ l. l.now) c.args.lines.now c.loop-i.i _ c.loop-i-test.true) (c.in_err-push_pattern.ensures (patterns_from names (c.loop-i.i + 1 + 1) rest)) c.loop-i.invariant)
