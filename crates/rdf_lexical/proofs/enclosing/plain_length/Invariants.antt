use Rattle.std.proofs.Common.{◌≡◌, ◌+◌, length}
use Rattle.rdf_lexical.specs.Enclosed
use Rattle.rdf_lexical.proofs.enclosing.plain_length.Given as goal

abbrev pub invariant-loop-rest : goal.invariant-loop-rest
invariant-loop-rest l = record {
  value : l.count + Enclosed.plain_length l.kind l.rest ≡ Enclosed.plain_length l.kind l.bytes;
  bound : l.count + length l.rest ≡ length l.bytes;
}

abbrev pub decreases-loop-rest : goal.decreases-loop-rest
decreases-loop-rest l = length l.rest
