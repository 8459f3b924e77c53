use Rattle.std.proofs.Common.{take}
use Rattle.plain_terms.specs.Finds.{Finds, WithSome}
use Rattle.plain_terms.specs.Pairs.{FromTriple}
use Rattle.plain_terms.proofs.pairs.pairs_of.Given as goal

abbrev pub invariant-loop-triple : goal.invariant-loop-triple
invariant-loop-triple l = Finds (WithSome (take l.triple-index l.graph) (FromTriple l.predicate)) l.pairs.items
