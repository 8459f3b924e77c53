use Rattle.std.proofs.Common.{take}
use Rattle.plain_terms.specs.Finds.{Finds, WithSome}
use Rattle.plain_validation.specs.Targets.{ClassRow}
use Rattle.plain_validation.proofs.targets.rows_of_classes.Given as goal

abbrev pub invariant-loop-class : goal.invariant-loop-class
invariant-loop-class l = Finds (WithSome (take l.class-index l.classes) (ClassRow l.graph l.shapes)) l.rows.items
