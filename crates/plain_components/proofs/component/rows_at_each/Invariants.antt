use Rattle.std.proofs.Common.{take}
use Rattle.plain_terms.specs.Finds.{Finds, WithSome}
use Rattle.plain_values.specs.Around.{RowsAt}
use Rattle.plain_components.proofs.component.rows_at_each.Given as goal

abbrev pub invariant-loop-parameter : goal.invariant-loop-parameter
invariant-loop-parameter l = Finds (WithSome (take l.parameter-index l.parameters) (RowsAt l.at l.component)) l.rows.items
