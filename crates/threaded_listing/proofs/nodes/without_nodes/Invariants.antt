use Rattle.std.proofs.Common.{◌≡◌, ◌++◌}
use Rattle.std.specs.List.{flat_map}
use Rattle.std.specs.Vec.Iter.{into_iter_items}
use Rattle.threaded_listing.proofs.nodes.without_nodes.Given as goal

abbrev pub invariant-loop-node : goal.invariant-loop-node
invariant-loop-node l = record {
  rest : l.yielded ++ into_iter_items l.node-iterator ≡ l.fn.found.items;
  rows : l.rows.items ≡ flat_map (λ node. node.rows) l.yielded;
}
