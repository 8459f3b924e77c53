use Rattle.std.proofs.Common.{◌≡◌, [], length, arith, refl, string_bytes}
use Rattle.session_files.proofs.SoFar.{count_sessions}
use Rattle.session_files.proofs.Answering.{no_history_as, played_behind, sessions_behind, stopped_behind}
use Rattle.session_files.proofs.running.replay_sessions.Goals as goal

pub returns-in-Err-clause-answer : goal.returns-in-Err-clause-answer
returns-in-Err-clause-answer g c = no_history_as _ c.in-Err.fault (g.F.Files.holds c.args.files.now) c.args.limits c.args.history.now c.args.names.now _ _ c.run_fault.ensures c.requires.few refl (c.in-Err.ensures.answer (g.M.Maker.refused c.args.maker.now))

pub returns-in-Err-load_behind-clause-answer : goal.returns-in-Err-load_behind-clause-answer
returns-in-Err-load_behind-clause-answer g c =
    let h = c.in-Ok.ensures.answer (g.M.Maker.refused c.args.maker.now) in
    stopped_behind c.in-Err-load_behind.fault (g.F.Files.holds c.args.files.now) _ c.args.limits c.args.history.now _ c.args.names.now _ _ _ c.load_file.ensures.holds h.0 h.1 h.2 refl c.requires.few c.in-Err-load_behind.ensures.answer

pub load_behind-requires : goal.load_behind-requires
load_behind-requires g c = (c.type_bounds.sync-R, c.requires.few)

pub print_replay-requires-clause-few : goal.print_replay-requires-clause-few
print_replay-requires-clause-few g c κs within =
    let n : length c.in-Ok-load_behind.all ≡ length c.args.names.now = count_sessions _ [] 1 _ _ (g.M.Maker.refused c.args.maker.now) (g.M.Maker.refused c.load_behind.new.maker) c.in-Ok-load_behind.ensures.answer.0 in
    omega (arith, n, c.requires.few)

pub returns-clause-answer : goal.returns-clause-answer
returns-clause-answer g c =
    let h = c.in-Ok.ensures.answer (g.M.Maker.refused c.args.maker.now) in
    let k = c.in-Ok-load_behind.ensures.answer in
    played_behind string_bytes (g.F.Files.holds c.args.files.now) c.args.limits c.args.history.now c.in-Ok.text.items c.args.names.now c.in-Ok-load_behind.all _ _ _ c.print_replay.result h.0 h.1 h.2 refl (sessions_behind _ _ _ _ _ _ c.load_file.ensures.holds k.0) k.1 c.requires.few
    (rw c.deref.ensures.value at c.print_replay.ensures)
