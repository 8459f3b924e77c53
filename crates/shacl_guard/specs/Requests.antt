-- What the words ask of the program.
use Rattle.std.specs.Prelude.{◌≡◌, ℕ, ◌≤◌, List, [], Option, Some, None}
use Rattle.store_model.specs.declared.event.BlockMode.{BlockMode}
use Rattle.store_model.specs.declared.event.BlockMode.TheVariants as modes
use Rattle.command_line.specs.declared.call.Block.{Block}
use Rattle.command_line.specs.declared.call.Block.TheVariants.{All, Violation}
use Rattle.command_line.specs.declared.call.Call.{Call}
use Rattle.command_line.specs.declared.call.Call.TheVariants.{Run, Replay, CreateLog, Follow, Validate, Explain, Verify, Generate}
use Rattle.command_line.specs.declared.call.LimitOptions.{LimitOptions}
use Rattle.command_line.specs.declared.call.WordsFault.{WordsFault}
use Rattle.command_line.specs.declared.call.WordsFault.TheVariants.{Usage, Memory}
use Rattle.command_line.specs.Words.{call_of}
use Rattle.follow_command.specs.Followed as followed
use Rattle.session_files.specs.Runs.{all_files}
use Rattle.validate_command.specs.Validated.{both_files}
use Rattle.validate_command.specs.Verified.{three_files}
use Rattle.session_files.specs.declared.session_run.SessionRun.{SessionRun}
use Rattle.shacl_guard.specs.declared.request.Asked.{Asked}
use Rattle.shacl_guard.specs.declared.request.Asked.TheVariants.{Plain, WithLog}
use Rattle.shacl_guard.specs.declared.request.LogRequest.{LogRequest}
use Rattle.shacl_guard.specs.declared.request.LogRequest.TheVariants.{Create, Logged}
use Rattle.shacl_guard.specs.declared.request.PlainRequest.{PlainRequest}
use Rattle.shacl_guard.specs.declared.request.PlainRequest.TheVariants.{Sessions, Validation, Explanation, Verification, Following, Load}

-- which results block in a store
abbrev pub mode_of : Block → BlockMode
mode_of All = modes.All
mode_of Violation = modes.Violation

-- the run of session files, in the order of a history where one is handed in
abbrev pub run_of : LimitOptions → Option (List ℕ) → List (List ℕ) → SessionRun
run_of limits history files = record { limits = record { terms = limits.terms; triples = limits.triples; mode = mode_of limits.block }; history = history; files = files }

-- session files without a log, in the order of a history where one is handed in, or two files to be validated, which may be
-- explained, or whose evidence in a third is verified, or a log that is followed, or a generated load; or, with a log: a log that is to
-- be made, or session files that are run over the store of one
abbrev pub asked_in : Call → Asked
asked_in (Run limits None files) = Plain (Sessions (run_of limits None files))
asked_in (Run limits (Some log) files) = WithLog (Logged (record { log = log; run = run_of limits None files }))
asked_in (Replay limits history files) = Plain (Sessions (run_of limits (Some history) files))
asked_in (CreateLog name) = WithLog (Create name)
asked_in (Follow log order version) = Plain (Following (record { log_file = log; order_file = order; version = version }))
asked_in (Validate graph shapes) = Plain (Validation (record { data_file = graph; shapes_file = shapes }))
asked_in (Explain graph shapes) = Plain (Explanation (record { data_file = graph; shapes_file = shapes }))
asked_in (Verify graph shapes evidence) = Plain (Verification (record { graphs = record { data_file = graph; shapes_file = shapes }; evidence_file = evidence }))
asked_in (Generate numbers) = Plain (Load numbers)

abbrev pub plain_of : Asked → Option PlainRequest
plain_of (Plain q) = Some q
plain_of (WithLog q) = None

abbrev pub log_of : Asked → Option LogRequest
log_of (Plain q) = None
log_of (WithLog q) = Some q

-- the request of a call without a log, and of one with a log
abbrev pub request_in : Option Call → Option PlainRequest
request_in None = None
request_in (Some call) = plain_of (asked_in call)

abbrev pub log_request_in : Option Call → Option LogRequest
log_request_in None = None
log_request_in (Some call) = log_of (asked_in call)

abbrev pub request_of : List (List ℕ) → Option PlainRequest
request_of words = request_in (call_of words)

abbrev pub log_request_of : List (List ℕ) → Option LogRequest
log_request_of words = log_request_in (call_of words)

-- the files of the words, in the order in which they are loaded; none where the words aren't taken
abbrev pub files_in : Option PlainRequest → List (List ℕ)
files_in None = []
files_in (Some (Sessions r)) = all_files r.history r.files
files_in (Some (Validation v)) = both_files v
files_in (Some (Explanation v)) = both_files v
files_in (Some (Verification v)) = three_files v
files_in (Some (Following f)) = followed.both_files f
files_in (Some (Load n)) = []

-- a store of as many terms can be had, and a load of that size
abbrev pub IsWithin : PlainRequest → Type 0
IsWithin (Sessions r) = r.limits.terms ≤ 2000000
IsWithin (Validation v) = Unit {0}
IsWithin (Explanation v) = Unit {0}
IsWithin (Verification v) = Unit {0}
IsWithin (Following f) = Unit {0}
IsWithin (Load n) = (1 ≤ n) × (n ≤ 100000)

abbrev pub IsLogWithin : LogRequest → Type 0
IsLogWithin (Create name) = Unit {0}
IsLogWithin (Logged q) = (q.run.limits.terms ≤ 2000000) × (q.run.history ≡ None)

-- why words are no request, with a log or without
abbrev pub Unasked : WordsFault → Option PlainRequest → Type 0
Unasked Usage asked = asked ≡ None
Unasked Memory asked = Unit {0}

abbrev pub UnaskedOfLog : WordsFault → Option LogRequest → Type 0
UnaskedOfLog Usage asked = asked ≡ None
UnaskedOfLog Memory asked = Unit {0}

abbrev pub IsAskedWithin : Asked → Type 0
IsAskedWithin (Plain q) = IsWithin q
IsAskedWithin (WithLog q) = IsLogWithin q

-- what the words ask for; not seen by any caller
pub record IsAsked (words : List (List ℕ)) (asked : Asked) : Type 0 where
  pub plain : request_of words ≡ plain_of asked
  pub with_log : log_request_of words ≡ log_of asked
  pub within : IsAskedWithin asked
