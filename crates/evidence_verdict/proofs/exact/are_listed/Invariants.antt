use Rattle.std.proofs.Common.{take}
use Rattle.std.specs.List.{All, Contains}
use Rattle.evidence_blocks.specs.Blocks.{looks_in}
use Rattle.evidence_verdict.proofs.exact.are_listed.Given as goal

abbrev pub invariant-loop-look : goal.invariant-loop-look
invariant-loop-look l = All (Contains (looks_in l.listed)) (take l.look-index l.looks)
