use Rattle.std.proofs.Common.{length}
use Rattle.evidence_blocks.specs.BlockText.{shown_text}
use Rattle.evidence_blocks.specs.Readable.{IsReadableShown}
use Rattle.evidence_reader.specs.Finding.{FindsSome, FollowsLooks}
use Rattle.evidence_reader.proofs.looks.look_lines.Given as goal

abbrev pub invariant-loop-looks : goal.invariant-loop-looks
invariant-loop-looks l = FindsSome IsReadableShown shown_text FollowsLooks l.text l.looks l.rest

abbrev pub decreases-loop-looks : goal.decreases-loop-looks
decreases-loop-looks l = length l.rest
