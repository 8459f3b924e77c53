use Rattle.std.proofs.Common.{◌≡◌, ◌≤◌, ◌++◌, drop, length}
use Rattle.evidence_reader.specs.Finding.{HasNo}
use Rattle.evidence_reader.proofs.looks.at_last_space.Given as goal

abbrev pub invariant-loop-rest : goal.invariant-loop-rest
invariant-loop-rest l = (l.line ≡ l.rest ++ drop (length l.rest) l.line) × HasNo 32 (drop (length l.rest) l.line) × (length l.rest ≤ length l.line)

abbrev pub decreases-loop-rest : goal.decreases-loop-rest
decreases-loop-rest l = length l.rest
