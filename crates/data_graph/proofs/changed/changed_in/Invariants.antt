use Rattle.std.proofs.Common.{◌≡◌, take}
use Rattle.data_graph.specs.Nets.{in_one_set}
use Rattle.data_graph.proofs.changed.changed_in.Given as goal

abbrev pub invariant-loop-change : goal.invariant-loop-change
invariant-loop-change l = l.found.items ≡ in_one_set l.set l.other (take l.change-index l.changes)
