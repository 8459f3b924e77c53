use Rattle.std.proofs.Common.{◌≡◌, ◌==◌, ◌+◌, ◌≤◌, take}
use Rattle.std.specs.List.{count_by}
use Rattle.turtle_reader.proofs.document.line_of.Given as goal

abbrev pub invariant-loop-byte : goal.invariant-loop-byte
invariant-loop-byte l = record {
  bound : l.line ≤ l.byte-index + 1;
  count : l.line ≡ count_by (λ b. b == 10) (take l.byte-index (take l.at l.bytes)) + 1;
}
