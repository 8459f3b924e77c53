use Rattle.std.proofs.Common.{◌≡◌, ℕ, Global, Vec, map, take}
use Rattle.bgp_query.proofs.row.vectors_of.Given as goal

abbrev pub invariant-loop-row : goal.invariant-loop-row
invariant-loop-row l = map (λ (v : Vec ℕ Global). v.items) l.vectors.items ≡ take l.row-index l.rows
