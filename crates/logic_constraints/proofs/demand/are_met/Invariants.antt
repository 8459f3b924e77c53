use Rattle.std.proofs.Common.{map}
use Rattle.logic_constraints.specs.Demands.{AreMet}
use Rattle.logic_constraints.proofs.demand.are_met.Given as goal

abbrev pub invariant-loop-at : goal.invariant-loop-at
invariant-loop-at l = AreMet l.demand l.at (map (λ a. a.items) l.answers) l.met.items
