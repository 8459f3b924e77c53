use Rattle.std.proofs.Common.{take}
use Rattle.std.specs.List.{All}
use Rattle.path_ast.specs.PathReadings.{IsNamed}
use Rattle.shape_ast.specs.Readings.{HoldsOfConstraint}
use Rattle.constraint_tests.proofs.evaluations.are_of_named.Given as goal

abbrev pub invariant-loop-constraint : goal.invariant-loop-constraint
invariant-loop-constraint l = All (HoldsOfConstraint (IsNamed l.names) 1) (take l.constraint-index l.constraints)
