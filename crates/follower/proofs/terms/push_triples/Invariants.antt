use Rattle.std.proofs.Common.{◌≡◌, ◌++◌, take}
use Rattle.std.specs.List.{flat_map}
use Rattle.follower.specs.Records.{triple_terms}
use Rattle.follower.proofs.terms.push_triples.Given as goal

abbrev pub invariant-loop-triple : goal.invariant-loop-triple
invariant-loop-triple l = l.terms.items ≡ l.fn.terms.items ++ flat_map triple_terms (take l.triple-index l.triples)
