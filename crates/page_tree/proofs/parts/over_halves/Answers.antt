use Rattle.std.proofs.Common.{◌+◌}
use Rattle.std.specs.Prelude.{◌<◌, ◌≤◌, length}
use Rattle.page_tree.specs.Blocks.{AreSound, height_of, most}
use Rattle.page_tree.proofs.Swaps.{pair-sound}
use Rattle.page_tree.proofs.parts.over_halves.Given as given
use Rattle.page_tree.proofs.parts.over_halves.Goals as goal
use Rattle.page_tree.proofs.parts.over_halves.Goals.{In_ok-entries}

whole : (g : given.Over) (c : In_ok-entries g) → (length c.in_ok-entries.entries.items ≤ most) × (0 < length c.in_ok-entries.entries.items) × AreSound g.K.Ord.cmp (height_of c.in_ok-entries.entries.items) c.in_ok-entries.entries.items
whole g c = pair-sound g.K.Ord.cmp (c.args.page.now.height + 1) c.in_ok-pair.pair c.in_ok-entries.entries.items c.in_ok-entries.ensures c.in_ok-pair.ensures.sound

pub over-requires : goal.over-requires
over-requires g c = let w = whole g c in record { sound = w.2; size = (w.1, w.0) }
