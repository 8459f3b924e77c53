use Rattle.std.proofs.Common.{string_bytes}
use Rattle.shacl_guard.proofs.Unlogged.{unlogged}
use Rattle.shacl_guard.proofs.answer.run_unlogged.Goals as goal

pub returns-clause-answer : goal.returns-clause-answer
returns-clause-answer g c =
    unlogged string_bytes _ _ _ _ _ (g.F.Files.holds c.args.files.now) c.in_ok-core.core c.args.run.now _ _ c.run_files-text.result.0 c.run_files-text.result.1 c.in_ok-core.ensures c.requires.unordered
    (rw c.as_slice.ensures at rw c.new.ensures at c.run_files-text.ensures.answer)
