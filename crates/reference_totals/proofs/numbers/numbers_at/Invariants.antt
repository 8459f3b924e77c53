use Rattle.std.proofs.Common.{◌≡◌, map, take}
use Rattle.reference_totals.specs.Totals.{entry}
use Rattle.reference_totals.proofs.numbers.numbers_at.Given as goal

abbrev pub invariant-loop-node : goal.invariant-loop-node
invariant-loop-node l = l.found ≡ map (entry l.numbers) (take l.node-index l.nodes)
