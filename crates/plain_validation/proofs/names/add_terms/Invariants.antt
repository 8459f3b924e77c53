use Rattle.std.proofs.Common.{◌≡◌, drop}
use Rattle.plain_validation.specs.Names.{with_terms}
use Rattle.plain_validation.proofs.names.add_terms.Given as goal

abbrev pub invariant-loop-triple : goal.invariant-loop-triple
invariant-loop-triple l = with_terms l.names.items (drop l.triple-index l.triples) ≡ with_terms l.fn.names.items l.triples
