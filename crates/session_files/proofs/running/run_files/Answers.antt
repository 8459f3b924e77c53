use Rattle.std.proofs.Common.{◌≡◌, ℕ, List, length, arith, subst}
use Rattle.input_files.specs.Loads.{Loads}
use Rattle.session_files.specs.Faults.{Stops}
use Rattle.session_files.proofs.Answering.{only_memory, stops_plain}
use Rattle.session_files.proofs.SoFar.{count_sessions}
use Rattle.session_files.proofs.running.run_files.Goals as goal

pub run_sessions-requires-clause-few : goal.run_sessions-requires-clause-few
run_sessions-requires-clause-few g c =
    let n : length c.in-Ok.all ≡ length c.args.names.now = count_sessions _ _ _ _ _ _ _ c.in-Ok.ensures.answer.0 in
    omega (arith, n, c.if-names-gt-MOST_FILES.false)

pub returns-in-Ok-clause-log_kept : goal.returns-in-Ok-clause-log_kept
returns-in-Ok-clause-log_kept g c = only_memory _ c.run_sessions.result.0 c.args.stored.log c.run_sessions.result.1 c.run_sessions.ensures.prints

pub returns-in-Err-clause-answer : goal.returns-in-Err-clause-answer
returns-in-Err-clause-answer g c =
    let before : Loads = record { loaded = g.F.Files.loaded c.args.files.now; failed = g.F.Files.failed c.args.files.now; refused = g.M.Maker.refused c.args.maker.now } in
    let after : Loads = record { loaded = g.F.Files.loaded c.load_all.new.files; failed = g.F.Files.failed c.load_all.new.files; refused = g.M.Maker.refused c.load_all.new.maker } in
    stops_plain c.in-Err.fault (g.F.Files.holds c.args.files.now) c.args.stored.first_numbers c.args.stored.core.limits c.args.names.now before after
    (subst (λ (ns : List ℕ). Stops c.in-Err.fault (g.F.Files.holds c.args.files.now) ns c.args.names.now before after) c.as_slice.ensures c.in-Err.ensures.answer)
