use Rattle.std.proofs.Common.{◌≡◌, ◌+◌, ◌++◌, length}
use Rattle.threaded_listing.specs.Shares.{nodes_of_shares}
use Rattle.threaded_listing.proofs.nodes.shares_of.Given as goal

abbrev pub invariant-loop-rest : goal.invariant-loop-rest
invariant-loop-rest g l = record {
  nodes : nodes_of_shares l.shares.items ++ l.rest ≡ l.fn.nodes;
  steps : l.steps + length l.rest ≡ l.fn.steps + length l.fn.nodes;
}

abbrev pub decreases-loop-rest : goal.decreases-loop-rest
decreases-loop-rest g l = length l.rest
