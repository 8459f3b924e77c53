use Rattle.std.proofs.Common.{◌≡◌, take}
use Rattle.triple_table.specs.Ranks.{HaveBytes, placed_marked}
use Rattle.triple_table.proofs.ranks.placed_of.Given as goal

abbrev pub invariant-loop-place : goal.invariant-loop-place
invariant-loop-place l = (l.placed.items ≡ placed_marked l.beginning l.marks (take l.place l.terms)) × HaveBytes l.placed.items
