use Rattle.reference_totals.proofs.Telling.{AreTelling}
use Rattle.reference_totals.proofs.tables.table_of.Given as goal

abbrev pub invariant-loop-node : goal.invariant-loop-node
invariant-loop-node l = AreTelling l.fn.numbers l.known l.table l.node-iterator
