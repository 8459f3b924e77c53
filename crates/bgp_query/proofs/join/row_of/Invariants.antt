use Rattle.std.proofs.Common.{◌≡◌, ◌<◌, ℕ, get_or, length}
use Rattle.std.specs.List.{Contains}
use Rattle.bgp_query.specs.Trails.{bound}
use Rattle.bgp_query.proofs.join.row_of.Given as goal

-- the numbers so far are those of the variables so far
abbrev pub invariant-loop-variable : goal.invariant-loop-variable
invariant-loop-variable l = record {
  many : length l.numbers.items ≡ l.variable;
  right : (v : ℕ) → v < l.variable → Contains l.trail (bound v (get_or l.numbers.items v 0));
}
