use Rattle.std.proofs.Common.{◌≡◌, ◌<◌, length}
use Rattle.page_tree.specs.Blocks.{AreSound, keys_of, height_of}
use Rattle.page_index.proofs.levels.root_over.Given as goal

abbrev pub invariant-loop-alloc : goal.invariant-loop-alloc
invariant-loop-alloc g l = record {
  sound : AreSound g.K.Ord.cmp (height_of l.level.items) l.level.items;
  some : 0 < length l.level.items;
  keys : keys_of l.level.items ≡ keys_of l.fn.entries.items;
}

abbrev pub decreases-loop-alloc : goal.decreases-loop-alloc
decreases-loop-alloc g l = length l.level.items
