use Rattle.std.proofs.Common.{take}
use Rattle.plain_terms.specs.Finds.{Finds, WithSome}
use Rattle.plain_components.specs.Rows.{PairRow}
use Rattle.plain_components.proofs.pairs.pair_rows_with.Given as goal

abbrev pub invariant-loop-value : goal.invariant-loop-value
invariant-loop-value l = Finds (WithSome (take l.value-index l.at.values.now) (PairRow l.at l.component l.parameter l.others)) l.rows.items
