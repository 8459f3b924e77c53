use Rattle.std.proofs.Common.{take}
use Rattle.plain_terms.specs.Finds.{Finds, WithSome}
use Rattle.shape_model.specs.Validation.{At}
use Rattle.plain_validation.proofs.targets.rows_at_all.Given as goal

abbrev pub invariant-loop-target : goal.invariant-loop-target
invariant-loop-target l = Finds (WithSome (take l.target-index l.targets) (At l.graph l.shapes l.shape)) l.rows.items
