use Rattle.std.proofs.Common.{◌≡◌, ◌++◌, string_bytes, take}
use Rattle.std.specs.List.{flat_map}
use Rattle.evidence_blocks.specs.BlockText.{shown_text}
use Rattle.evidence_blocks.proofs.writing.push_looks.Given as goal

abbrev pub invariant-loop-look : goal.invariant-loop-look
invariant-loop-look l = string_bytes l.out ≡ string_bytes l.fn.out ++ flat_map shown_text (take l.look-index l.looks)
