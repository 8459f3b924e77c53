use Rattle.std.proofs.Common.{map, take}
use Rattle.triple_index.specs.Changes.{change_at}
use Rattle.data_graph.specs.Finding.{AreLast, changes_asked}
use Rattle.data_graph.proofs.asked.last_asked.Given as goal

abbrev pub invariant-loop-change : goal.invariant-loop-change
invariant-loop-change l = AreLast (changes_asked l.pattern (map (change_at l.terms) (take l.change-index l.changes))) l.last.added.keys l.last.removed.keys
