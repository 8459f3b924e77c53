use Rattle.std.proofs.Common.{◌≡◌, map, take}
use Rattle.data_graph.specs.Numbering.{change_by}
use Rattle.data_graph.proofs.numbering.changes_by.Given as goal

abbrev pub invariant-loop-change : goal.invariant-loop-change
invariant-loop-change l = l.numbered.items ≡ map (change_by l.numbers) (take l.change-index l.changes)
