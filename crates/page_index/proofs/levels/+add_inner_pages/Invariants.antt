use Rattle.std.proofs.Common.{length}
use Rattle.page_index.proofs.levels.+add_inner_pages.Given as goal

abbrev pub decreases-add_inner_pages : goal.decreases-add_inner_pages
decreases-add_inner_pages g l = length l.entries.now
