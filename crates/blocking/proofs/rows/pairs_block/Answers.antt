use Rattle.std.proofs.Common.{List, arith, subst}
use Rattle.std.specs.List.{Contains}
use Rattle.shape_model.specs.declared.result_row.ResultRow.{ResultRow}
use Rattle.shape_syntax.proofs.Scans.{read_in}
use Rattle.blocking.proofs.rows.pairs_block.Goals as goal

pub has_blocking-requires : goal.has_blocking-requires
has_blocking-requires c = λ row there.
    c.requires c.pair-item.result (read_in c.args.pairs.now c.loop-pair.pair-index c.pair-item.result (omega arith) c.pair-item.is) row
    (subst (λ (rows : List ResultRow). Contains rows row) c.as_slice.ensures there)
