use Rattle.std.proofs.Common.{◌≡◌, map, take}
use Rattle.data_graph.specs.Nets.{ids_changed}
use Rattle.data_graph.proofs.numbering.triples_changed.Given as goal

abbrev pub invariant-loop-change : goal.invariant-loop-change
invariant-loop-change l = l.ids.items ≡ map ids_changed (take l.change-index l.changes)
