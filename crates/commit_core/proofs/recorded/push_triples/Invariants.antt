use Rattle.std.proofs.Common.{◌≡◌, ◌++◌, take}
use Rattle.commit_core.proofs.recorded.push_triples.Given as goal

abbrev pub invariant-loop-triple : goal.invariant-loop-triple
invariant-loop-triple l = l.table ≡ l.fn.table ++ take l.triple-index l.triples
