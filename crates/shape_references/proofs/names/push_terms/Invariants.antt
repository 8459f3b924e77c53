use Rattle.std.proofs.Common.{◌≡◌, ◌++◌, take}
use Rattle.shape_references.proofs.names.push_terms.Given as goal

abbrev pub invariant-loop-term : goal.invariant-loop-term
invariant-loop-term l = l.nodes ≡ l.fn.nodes ++ take l.term-index l.terms
