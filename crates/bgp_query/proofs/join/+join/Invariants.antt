use Rattle.std.proofs.Common.{◌≡◌, ◌+◌, ◌*◌, length, take}
use Rattle.bgp_query.specs.Bindings.{most_bindings}
use Rattle.bgp_query.specs.Trails.{Added, IsMet}
use Rattle.bgp_query.proofs.join.+join.Given as goal

abbrev pub decreases-join_from : goal.decreases-join_from
decreases-join_from g l = 3 * length l.left.now

abbrev pub decreases-join_each : goal.decreases-join_each
decreases-join_each g l = 3 * length l.rest.now + 2

abbrev pub decreases-join_one : goal.decreases-join_one
decreases-join_one g l = 3 * length l.rest.now + 1

-- the rows for the triples so far were added
abbrev pub invariant-join_each-loop-triple : goal.invariant-join_each-loop-triple
invariant-join_each-loop-triple g l = record {
  trail : l.trail.items ≡ l.fn.trail.items;
  rows : Added most_bindings (IsMet (g.R.Triples.triples l.search.set.now) l.search.variables l.fn.trail.items l.pattern l.rest (take l.triple-index l.found)) l.fn.rows.items l.rows.items;
}
