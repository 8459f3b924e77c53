use Rattle.std.proofs.Common.{◌≡◌, ◌++◌}
use Rattle.std.specs.Vec.Iter.{into_iter_items}
use Rattle.kept_validation.proofs.Keeping.{HavePairs}
use Rattle.kept_validation.proofs.whole.with_pairs.Given as goal

abbrev pub invariant-loop-node : goal.invariant-loop-node
invariant-loop-node l = record {
  rest : l.yielded ++ into_iter_items l.node-iterator ≡ l.fn.found.items;
  kept : HavePairs l.fn.shape l.yielded l.kept.items;
}
