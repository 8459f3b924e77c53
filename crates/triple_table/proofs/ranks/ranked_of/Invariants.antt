use Rattle.std.proofs.Common.{◌≡◌, map, take}
use Rattle.triple_table.specs.Ranks.{ranked}
use Rattle.triple_table.proofs.ranks.ranked_of.Given as goal

abbrev pub invariant-loop-triple : goal.invariant-loop-triple
invariant-loop-triple l = l.found.items ≡ map (ranked l.terms l.ranks) (take l.triple-index l.triples)
