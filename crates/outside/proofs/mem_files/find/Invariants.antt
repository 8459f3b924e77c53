use Rattle.std.proofs.Common.{◌≡◌, drop}
use Rattle.outside.specs.Memory.{content}
use Rattle.outside.proofs.mem_files.find.Given as goal

abbrev pub invariant-loop-file : goal.invariant-loop-file
invariant-loop-file l = content (drop l.file-index l.files) l.name ≡ content l.files l.name
