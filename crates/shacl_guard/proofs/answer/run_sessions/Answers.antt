use Rattle.std.proofs.Common.{◌∙◌, Some, ap, string_bytes, sym}
use Rattle.shacl_guard.proofs.Unlogged.{replayed}
use Rattle.shacl_guard.proofs.answer.run_sessions.Goals as goal

pub returns-in-Some-clause-answer : goal.returns-in-Some-clause-answer
returns-in-Some-clause-answer g c =
    replayed string_bytes (g.F.Files.holds c.args.files.now) c.args.run.now c.as_str.result.now c.as_slice.result.now _ _ c.replay_files.result (c.in-Some.is ∙ ap Some (sym c.as_str.ensures)) c.as_slice.ensures c.replay_files.ensures.answer
