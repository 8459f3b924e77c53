use Rattle.std.proofs.Common.{take}
use Rattle.plain_terms.specs.Finds.{Finds, WithSome}
use Rattle.plain_components.specs.Rows.{TagRow}
use Rattle.plain_components.proofs.pairs.tag_rows.Given as goal

abbrev pub invariant-loop-value : goal.invariant-loop-value
invariant-loop-value l = Finds (WithSome (take l.value-index l.at.values.now) (TagRow l.at l.parameter)) l.rows.items
