use Rattle.std.proofs.Common.{Some, arith, string_bytes}
use Rattle.input_files.specs.Loads.{Loads}
use Rattle.session_files.specs.declared.session_run.SessionRun.{SessionRun}
use Rattle.session_files.proofs.Answering.{replayed}
use Rattle.session_files.proofs.running.replay_files.Goals as goal

pub returns-clause-answer : goal.returns-clause-answer
returns-clause-answer g c =
    let asked : SessionRun = record { limits = c.args.limits; history = Some c.args.history.now; files = c.args.names.now } in
    let before : Loads = record { loaded = g.F.Files.loaded c.args.files.now; failed = g.F.Files.failed c.args.files.now; refused = g.M.Maker.refused c.args.maker.now } in
    let after : Loads = record { loaded = g.F.Files.loaded c.replay_sessions.new.files; failed = g.F.Files.failed c.replay_sessions.new.files; refused = g.M.Maker.refused c.replay_sessions.new.maker } in
    replayed string_bytes (g.F.Files.holds c.args.files.now) asked before after c.replay_sessions.result (omega (arith, c.if-names-gt-MOST_FILES.false)) c.replay_sessions.ensures.answer
