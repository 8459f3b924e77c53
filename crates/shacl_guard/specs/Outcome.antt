-- What a status says of the words, the files and the sink.
use Rattle.std.specs.Prelude.{◌≡◌, ◌≢◌, ◌⊎◌, ℕ, ◌+◌, ◌<◌, ◌≤◌, List, [], ◌∷◌, length, take, Option, Some, None, Ok}
use Rattle.session_reader.specs.declared.read_command.ReadCommand.{ReadCommand}
use Rattle.session_reader.specs.SessionFile.{session_of}
use Rattle.outside.specs.Files.{Contents, grown}
use Rattle.input_files.specs.Lengths.{room}
use Rattle.input_files.specs.Loads.{Loads}
use Rattle.validate_command.specs.declared.bad_input.BadInput.{BadInput as InputFault}
use Rattle.log_command.specs.Devices.{Device}
use Rattle.shacl_guard.specs.declared.request.LogRequest.{LogRequest}
use Rattle.shacl_guard.specs.LogRuns.{FailsOfLog, IsDueOfLog}
use Rattle.shacl_guard.specs.declared.request.PlainRequest.{PlainRequest}
use Rattle.shacl_guard.specs.declared.request.PlainRequest.TheVariants.{Sessions, Validation, Explanation, Verification, Following, Load}
use Rattle.shacl_guard.specs.declared.status.Status.{Status}
use Rattle.shacl_guard.specs.declared.status.Status.TheVariants.{Done, Invalid, ReadFault, WriteFault, Memory, BadHistory, BadInput, BadLog, BadOrder, BadEvidence}
use Rattle.shacl_guard.specs.Requests.{request_of}
use Rattle.shacl_guard.specs.Due.{FailsLoad, IsDue, RunsOut}

-- at one moment: the loads so far with what was refused, and all that the sink took, where it tells that
pub record Outside : Type 0 where
  pub loads : Loads
  pub taken : Option (List ℕ)

-- a call: its words, what the names hold, where that is told, and what is outside before the call and after it
pub record Call : Type 0 where
  pub words : List (List ℕ)
  pub held : Option Contents
  pub before : Outside
  pub after : Outside

-- the whole text that is due with the status was taken
abbrev pub PrintsAll : Status → Call → Type 0
PrintsAll s c = (text : List ℕ) × IsDue c.words c.held s c.before.loads c.after.loads text × (c.after.taken ≡ grown c.before.taken text)

-- a part of what was due with some status was taken, and not all of it
abbrev pub PrintsPart : Call → Type 0
PrintsPart c = (s : Status) × (text : List ℕ) × (n : ℕ) × (n < length text) × IsDue c.words c.held s c.before.loads c.after.loads text × (c.after.taken ≡ grown c.before.taken (take n text))

-- By the status: what the words and the files are, which files were loaded, and what the sink took. Where a load failed or
-- memory ran out it took nothing.
abbrev pub IsOutcome : Status → Call → Type 0
IsOutcome ReadFault c = FailsLoad c.held (request_of c.words) c.before.loads c.after.loads × (c.after.taken ≡ c.before.taken)
IsOutcome WriteFault c = PrintsPart c
IsOutcome Memory c = RunsOut (request_of c.words) c.before.loads c.after.loads × (c.after.taken ≡ c.before.taken)
IsOutcome s c = PrintsAll s c

-- all of a text with its status was taken; or a part of it, where the sink is to blame; not seen by any caller
abbrev pub IsWritten : Status → List ℕ → Status → Option (List ℕ) → Option (List ℕ) → Type 0 → Type 0
IsWritten s text result old new blamed =
    ((result ≡ s) × (new ≡ grown old text)) ⊎ ((result ≡ WriteFault) × ((n : ℕ) × (n < length text) × (new ≡ grown old (take n text))) × blamed)

-- The same of a request with a log, whose device is `was` before the call and `is` after it.

abbrev pub PrintsAllOfLog : Type 0 → LogRequest → Status → Call → Device → Device → Type 0
PrintsAllOfLog tells q s c was is = (text : List ℕ) × IsDueOfLog tells c.held q s c.before.loads c.after.loads was is text × (c.after.taken ≡ grown c.before.taken text)

abbrev pub PrintsPartOfLog : Type 0 → LogRequest → Call → Device → Device → Type 0
PrintsPartOfLog tells q c was is =
    (s : Status) × (text : List ℕ) × (n : ℕ) × (n < length text) × IsDueOfLog tells c.held q s c.before.loads c.after.loads was is text × (c.after.taken ≡ grown c.before.taken (take n text))

abbrev pub IsOutcomeOfLog : Type 0 → LogRequest → Status → Call → Device → Device → Type 0
IsOutcomeOfLog tells q ReadFault c was is = FailsOfLog ReadFault tells c.held q c.before.loads c.after.loads was is × (c.after.taken ≡ c.before.taken)
IsOutcomeOfLog tells q WriteFault c was is = PrintsPartOfLog tells q c was is
IsOutcomeOfLog tells q Memory c was is = FailsOfLog Memory tells c.held q c.before.loads c.after.loads was is × (c.after.taken ≡ c.before.taken)
IsOutcomeOfLog tells q s c was is = PrintsAllOfLog tells q s c was is

-- the file is there, within its length
abbrev pub IsThere : (List ℕ → Option (List ℕ)) → List ℕ → Type 0
IsThere held name = (bytes : List ℕ) × (held name ≡ Some bytes) × (length bytes < room)

-- these files are there from number i on, within their length, and session files
abbrev pub AreThere : (List ℕ → Option (List ℕ)) → ℕ → List (List ℕ) → Type 0
AreThere held i [] = Unit {0}
AreThere held i (name ∷ names) = ((bytes : List ℕ) × (commands : List ReadCommand) × (held name ≡ Some bytes) × (length bytes < room) × (session_of i 1 bytes ≡ Ok commands)) × AreThere held (i + 1) names

-- the file of a history is there, within its length, where one is handed in
abbrev pub IsHistoryThere : (List ℕ → Option (List ℕ)) → Option (List ℕ) → Type 0
IsHistoryThere held None = Unit {0}
IsHistoryThere held (Some name) = IsThere held name

-- the request is a run of up to 64 such files, or a replay of them, or a validation of two files, which may be explained, or whose
-- evidence in a third is verified, or a log that is followed in the order of a second file, or a generated load
abbrev pub HasFiles : Option Contents → Option PlainRequest → Type 0
HasFiles None None = ⊥
HasFiles None (Some (Sessions r)) = ⊥
HasFiles None (Some (Validation v)) = ⊥
HasFiles None (Some (Explanation v)) = ⊥
HasFiles None (Some (Verification v)) = ⊥
HasFiles None (Some (Following f)) = ⊥
HasFiles None (Some (Load n)) = Unit {0}
HasFiles (Some held) None = ⊥
HasFiles (Some held) (Some (Load n)) = Unit {0}
HasFiles (Some held) (Some (Sessions r)) = IsHistoryThere held r.history × (length r.files ≤ 64) × AreThere held 1 r.files
HasFiles (Some held) (Some (Validation v)) = IsThere held v.data_file × IsThere held v.shapes_file
HasFiles (Some held) (Some (Explanation v)) = IsThere held v.data_file × IsThere held v.shapes_file
HasFiles (Some held) (Some (Verification v)) = IsThere held v.graphs.data_file × IsThere held v.graphs.shapes_file × IsThere held v.evidence_file
HasFiles (Some held) (Some (Following f)) = IsThere held f.log_file × IsThere held f.order_file

-- The sessions were run, or the history that was handed in isn't valid for them; the files were validated, or aren't what
-- they should be; the evidence is verified, or a block of it is wrong; the log was followed, or is none, or the order is none of its
-- records; the load was run; or memory ran out.
abbrev pub IsAnswered : Option PlainRequest → Status → Type 0
IsAnswered None s = ⊥
IsAnswered (Some (Sessions r)) s = (s ≡ Done) ⊎ ((s ≡ Memory) ⊎ ((k : ℕ) × (r.history ≢ None) × (s ≡ BadHistory k)))
IsAnswered (Some (Validation v)) s = (s ≡ Done) ⊎ ((s ≡ Invalid) ⊎ ((s ≡ Memory) ⊎ ((bad : InputFault) × (s ≡ BadInput bad))))
IsAnswered (Some (Explanation v)) s = (s ≡ Done) ⊎ ((s ≡ Invalid) ⊎ ((s ≡ Memory) ⊎ ((bad : InputFault) × (s ≡ BadInput bad))))
IsAnswered (Some (Verification v)) s = (s ≡ Done) ⊎ ((s ≡ Memory) ⊎ (((bad : InputFault) × (s ≡ BadInput bad)) ⊎ ((block : ℕ) × (s ≡ BadEvidence block))))
IsAnswered (Some (Following f)) s = (s ≡ Done) ⊎ ((s ≡ Memory) ⊎ (((number : ℕ) × (s ≡ BadLog number)) ⊎ ((place : ℕ) × (s ≡ BadOrder place))))
IsAnswered (Some (Load n)) s = (s ≡ Done) ⊎ (s ≡ Memory)
