use Rattle.std.proofs.Common.{map}
use Rattle.session_reader.proofs.Selects.{names_on, next_line}
use Rattle.session_reader.proofs.select_block.names_of.Goals as goal

pub loop-line-preserved : goal.loop-line-preserved
loop-line-preserved c =
    names_on (map (λ n. n.now) c.loop-line.names.items) (map (λ n. n.now) c.in_ok-names.names.items) _ _ _ _ _ (next_line (λ l. l.now) c.args.lines.now c.loop-line.line-index _ c.loop-line-test.true) c.trimmed.ensures c.in_ok-names.ensures c.loop-line.invariant
