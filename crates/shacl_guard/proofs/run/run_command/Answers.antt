use Rattle.std.proofs.Common.{map, refl}
use Rattle.log_command.specs.Devices.{seen}
use Rattle.input_files.specs.Loads.{Loads}
use Rattle.shacl_guard.specs.Outcome.{Call}
use Rattle.shacl_guard.specs.Requests.{log_request_of, request_of}
use Rattle.shacl_guard.proofs.Complete.{memory_answer}
use Rattle.shacl_guard.proofs.Outcomes.{none_asked, none_there, with_none, with_some}
use Rattle.shacl_guard.proofs.run.run_command.Goals as goal

pub returns-in-Ok-Plain-clause-outcome : goal.returns-in-Ok-Plain-clause-outcome
returns-in-Ok-Plain-clause-outcome g c =
    let asked = rw c.in-Ok-Plain.field-0-is at c.in-Ok-Plain.ensures in
    with_none _ _ _ asked.with_log (c.run_plain.ensures.outcome (map (λ w. w.now) c.args.words.now) asked.plain, refl)

pub returns-in-Ok-Plain-clause-complete : goal.returns-in-Ok-Plain-clause-complete
returns-in-Ok-Plain-clause-complete g c =
    let asked = rw c.in-Ok-Plain.field-0-is at c.in-Ok-Plain.ensures in
    c.run_plain.ensures.complete (map (λ w. w.now) c.args.words.now) asked.plain

pub returns-in-Ok-WithLog-clause-outcome : goal.returns-in-Ok-WithLog-clause-outcome
returns-in-Ok-WithLog-clause-outcome g c =
    let asked = rw c.in-Ok-WithLog.field-0-is at c.in-Ok-WithLog.ensures in
    with_some _ _ _ _ asked.with_log (c.run_logged.ensures.outcome (map (λ w. w.now) c.args.words.now))

pub returns-in-Ok-WithLog-clause-complete : goal.returns-in-Ok-WithLog-clause-complete
returns-in-Ok-WithLog-clause-complete g c =
    let asked = rw c.in-Ok-WithLog.field-0-is at c.in-Ok-WithLog.ensures in
    λ there same still. none_there _ _ _ asked.plain there

pub returns-in-Err-Usage-clause-outcome : goal.returns-in-Err-Usage-clause-outcome
returns-in-Err-Usage-clause-outcome g c =
    let none = rw c.in-Err-Usage.field-0-is at c.in-Err-Usage.ensures in
    let loads : Loads = record { loaded = g.F.Files.loaded c.args.files.now; failed = g.F.Files.failed c.args.files.now; refused = g.M.Maker.refused c.args.maker.now } in
    with_none _ _ _ none.1 (c.refuse_words.ensures.outcome (map (λ w. w.now) c.args.words.now) (g.F.Files.holds c.args.files.now) loads none.0, refl)

pub returns-in-Err-Usage-clause-complete : goal.returns-in-Err-Usage-clause-complete
returns-in-Err-Usage-clause-complete g c =
    let none = rw c.in-Err-Usage.field-0-is at c.in-Err-Usage.ensures in
    λ there same still. none_there _ _ _ none.0 there

pub returns-in-Err-Memory-clause-outcome : goal.returns-in-Err-Memory-clause-outcome
returns-in-Err-Memory-clause-outcome g c =
    let words = map (λ w. w.now) c.args.words.now in
    let loads : Loads = record { loaded = g.F.Files.loaded c.args.files.now; failed = g.F.Files.failed c.args.files.now; refused = g.M.Maker.refused c.args.maker.now } in
    let call : Call = record {
      words = words;
      held = g.F.Files.holds c.args.files.now;
      before = record { loads = loads; taken = g.K.Sink.taken c.args.out.now };
      after = record { loads = loads; taken = g.K.Sink.taken c.args.out.now };
    } in
    none_asked c.args.disk g.D.Disk.tells call (seen g.D.Disk.bytes g.D.Disk.history g.D.Disk.chosen g.D.Disk.faults c.args.disk) (log_request_of words) refl

pub returns-in-Err-Memory-clause-complete : goal.returns-in-Err-Memory-clause-complete
returns-in-Err-Memory-clause-complete g c = λ there same still. memory_answer (g.F.Files.holds c.args.files.now) (request_of (map (λ w. w.now) c.args.words.now)) there
