use Rattle.std.proofs.Common.{◌≡◌, take}
use Rattle.numbered_lists.proofs.triples.table_of.Given as goal

abbrev pub invariant-loop-triple : goal.invariant-loop-triple
invariant-loop-triple l = l.table ≡ take l.triple-index l.triples
