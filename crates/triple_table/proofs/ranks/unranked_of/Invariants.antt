use Rattle.std.proofs.Common.{◌≡◌, map, take}
use Rattle.triple_table.specs.Ranks.{unranked}
use Rattle.triple_table.proofs.ranks.unranked_of.Given as goal

abbrev pub invariant-loop-triple : goal.invariant-loop-triple
invariant-loop-triple l = l.found.items ≡ map (unranked l.sorted) (take l.triple-index l.ranked)
