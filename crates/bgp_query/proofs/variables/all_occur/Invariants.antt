use Rattle.std.proofs.Common.{◌<◌, ℕ}
use Rattle.bgp_query.specs.Bindings.{Occurs}
use Rattle.bgp_query.proofs.variables.all_occur.Given as goal

abbrev pub invariant-loop-variable : goal.invariant-loop-variable
invariant-loop-variable l = (v : ℕ) → v < l.variable → Occurs l.patterns v
