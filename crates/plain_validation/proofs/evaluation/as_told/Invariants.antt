use Rattle.std.proofs.Common.{take}
use Rattle.plain_terms.specs.Finds.{Finds, WithSome}
use Rattle.plain_validation.specs.References.{IsEntry}
use Rattle.plain_validation.proofs.evaluation.as_told.Given as goal

abbrev pub invariant-loop-row : goal.invariant-loop-row
invariant-loop-row l = Finds (WithSome (take l.row-index l.rows) (IsEntry l.shape l.node)) l.told.items
