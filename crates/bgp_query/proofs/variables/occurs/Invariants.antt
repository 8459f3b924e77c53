use Rattle.std.proofs.Common.{take}
use Rattle.bgp_query.specs.Bindings.{Occurs}
use Rattle.bgp_query.proofs.variables.occurs.Given as goal

abbrev pub invariant-loop-pattern : goal.invariant-loop-pattern
invariant-loop-pattern l = Occurs (take l.pattern-index l.patterns) l.variable → ⊥
