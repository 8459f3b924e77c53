use Rattle.std.proofs.Common.{length}
use Rattle.std.specs.List.{Contains}
use Rattle.parallel_validate.specs.declared.pairs.CheckedRows.{CheckedRows}
use Rattle.data_graph.specs.Pairs.{numbered}
use Rattle.data_graph.proofs.Moved.{AreMoved}
use Rattle.data_graph.proofs.pairs.numbered_pairs.Given as goal

abbrev pub invariant-loop-pair : goal.invariant-loop-pair
invariant-loop-pair l = record {
  moved : AreMoved (numbered l.planned.bound.shapes) l.fn.pairs l.found.items l.rest.items;
  left : (c : CheckedRows) → Contains l.rest.items c → Contains l.fn.pairs c;
}

abbrev pub decreases-loop-pair : goal.decreases-loop-pair
decreases-loop-pair l = length l.rest.items
