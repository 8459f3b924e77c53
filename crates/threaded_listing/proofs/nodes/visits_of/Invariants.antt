use Rattle.std.proofs.Common.{◌≡◌, ◌+◌, take}
use Rattle.threaded_listing.specs.Shares.{nodes_of}
use Rattle.threaded_listing.proofs.nodes.visits_of.Given as goal

abbrev pub invariant-loop-node : goal.invariant-loop-node
invariant-loop-node g l = record {
  nodes : nodes_of l.visits.items ≡ take l.node-index l.nodes;
  steps : l.steps ≡ l.fn.steps + l.node-index;
}
