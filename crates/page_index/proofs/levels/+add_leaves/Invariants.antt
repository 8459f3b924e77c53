use Rattle.std.proofs.Common.{length}
use Rattle.page_index.proofs.levels.+add_leaves.Given as goal

abbrev pub decreases-add_leaves : goal.decreases-add_leaves
decreases-add_leaves g l = length l.keys.now
