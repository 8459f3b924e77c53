use Rattle.std.proofs.Common.{◌≡◌, map, take}
use Rattle.focus_affected.proofs.pairs.pairs_of.Given as goal

abbrev pub invariant-loop-node : goal.invariant-loop-node
invariant-loop-node l = l.pairs.items ≡ map (λ n. (l.place, n)) (take l.node-index l.nodes)
