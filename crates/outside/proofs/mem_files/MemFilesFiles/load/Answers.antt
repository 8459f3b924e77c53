use Rattle.std.proofs.Common.{rules, inl}
use Rattle.outside.proofs.mem_files.MemFilesFiles.load.Goals as goal

pub returns-then-contains-clause-gives : goal.returns-then-contains-clause-gives
returns-then-contains-clause-gives c = (search rules, inl (search rules))
