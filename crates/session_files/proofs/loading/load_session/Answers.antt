use Rattle.std.proofs.Common.{refl}
use Rattle.session_files.proofs.SoFar.{loaded_session, unloaded_as}
use Rattle.session_files.proofs.loading.load_session.Goals as goal

pub loaded_file-requires-clause-room : goal.loaded_file-requires-clause-room
loaded_file-requires-clause-room g c = let h = c.in-Ok.ensures.answer (g.M.Maker.refused c.args.maker.now) in h.0.1

pub returns-in-Ok-clause-answer : goal.returns-in-Ok-clause-answer
returns-in-Ok-clause-answer g c =
    let h = c.in-Ok.ensures.answer (g.M.Maker.refused c.args.maker.now) in
    loaded_session _ _ _ _ _ _ _ _ h.0 h.1 h.2 (rw c.first_number-first.ensures.first at c.loaded_file.ensures.answer)

pub returns-in-Err-clause-answer : goal.returns-in-Err-clause-answer
returns-in-Err-clause-answer g c = unloaded_as _ c.in-Err.fault _ _ _ _ _ _ c.run_fault.ensures refl (c.in-Err.ensures.answer (g.M.Maker.refused c.args.maker.now))
