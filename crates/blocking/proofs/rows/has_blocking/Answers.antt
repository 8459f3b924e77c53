use Rattle.std.proofs.Common.{arith}
use Rattle.shape_syntax.proofs.Scans.{read_in}
use Rattle.blocking.proofs.rows.has_blocking.Goals as goal

pub does_block-requires : goal.does_block-requires
does_block-requires c = c.requires c.row-item.result (read_in c.args.rows.now c.loop-row.row-index c.row-item.result (omega arith) c.row-item.is)
