use Rattle.std.proofs.Common.{take}
use Rattle.plain_terms.specs.Finds.{Finds, WithSome}
use Rattle.plain_validation.specs.Targets.{DeclaredRow}
use Rattle.plain_validation.proofs.targets.declared_rows.Given as goal

abbrev pub invariant-loop-triple : goal.invariant-loop-triple
invariant-loop-triple l = Finds (WithSome (take l.triple-index l.shapes) (DeclaredRow l.graph l.shapes)) l.rows.items
