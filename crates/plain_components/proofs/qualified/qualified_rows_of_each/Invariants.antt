use Rattle.std.proofs.Common.{take}
use Rattle.plain_terms.specs.Finds.{Finds, WithSome}
use Rattle.plain_components.specs.Rows.{QualifiedRow}
use Rattle.plain_components.specs.Siblings.{IsWrong}
use Rattle.plain_components.proofs.qualified.qualified_rows_of_each.Given as goal

abbrev pub invariant-loop-shape : goal.invariant-loop-shape
invariant-loop-shape l = Finds (WithSome (take l.shape-index l.shapes) (QualifiedRow l.at l.component l.parameter (IsWrong l.component l.parameter))) l.rows.items
