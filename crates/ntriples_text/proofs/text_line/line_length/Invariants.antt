use Rattle.std.proofs.Common.{◌≡◌, ◌+◌, length}
use Rattle.ntriples_text.specs.LineBytes
use Rattle.ntriples_text.proofs.text_line.line_length.Given as goal

abbrev pub invariant-loop-rest : goal.invariant-loop-rest
invariant-loop-rest l = record {
  value : l.count + LineBytes.line_length l.rest ≡ LineBytes.line_length l.bytes;
  bound : l.count + length l.rest ≡ length l.bytes;
}

abbrev pub decreases-loop-rest : goal.decreases-loop-rest
decreases-loop-rest l = length l.rest
