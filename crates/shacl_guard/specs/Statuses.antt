-- The statuses: their numbers, the lines of errors, and the status of each fault.
use Rattle.std.specs.Prelude.{ℕ, Bool, true, false, List, ◌++◌, Option, Some, None, codes}
use Rattle.std.specs.Fmt.{decimal}
use Rattle.follow_command.specs.declared.fault.FollowFault.{FollowFault}
use Rattle.follow_command.specs.declared.fault.FollowFault.TheVariants as following
use Rattle.command_line.specs.declared.call.WordsFault.{WordsFault}
use Rattle.command_line.specs.declared.call.WordsFault.TheVariants as words
use Rattle.session_model.specs.Print.{line}
use Rattle.session_files.specs.declared.fault.RunFault.{RunFault}
use Rattle.session_files.specs.declared.fault.RunFault.TheVariants as run
use Rattle.log_command.specs.declared.fault.CreateLogFault.{CreateLogFault}
use Rattle.log_command.specs.declared.fault.CreateLogFault.TheVariants as creation
use Rattle.log_command.specs.declared.fault.LogFault.{LogFault}
use Rattle.log_command.specs.declared.fault.LogFault.TheVariants as log
use Rattle.validate_command.specs.declared.bad_input.BadInput.TheVariants as bad
use Rattle.validate_command.specs.Lines.{bad_input_text}
use Rattle.validate_command.specs.declared.fault.ValidateFault.{ValidateFault}
use Rattle.validate_command.specs.declared.fault.ValidateFault.TheVariants as validation
use Rattle.shacl_guard.specs.declared.status.Status.{Status}
use Rattle.shacl_guard.specs.declared.status.Status.TheVariants.{Done, Invalid, Usage, ReadFault, WriteFault, BadSession, Memory, TooLong, TooManyFiles, BadHistory, BadInput, BadLog, LogSpent, LogTooLarge, LogStopped, BadOrder, BadEvidence}

abbrev pub code_of : Status → ℕ
code_of Done = 0
code_of Invalid = 1
code_of Usage = 2
code_of ReadFault = 3
code_of WriteFault = 4
code_of (BadSession session line) = 5
code_of Memory = 6
code_of (TooLong file) = 7
code_of TooManyFiles = 8
code_of (BadHistory place) = 9
code_of (BadInput bad) = 10
code_of (BadLog entry) = 11
code_of LogSpent = 12
code_of LogTooLarge = 13
code_of LogStopped = 14
code_of (BadOrder place) = 15
code_of (BadEvidence block) = 16

-- the line of a status that is an error with a line
abbrev pub error_line : Status → Option (List ℕ)
error_line Usage = Some (line (codes "error usage"))
error_line (BadSession i n) = Some (line (codes "error session " ++ decimal i ++ codes " line " ++ decimal n))
error_line (TooLong i) = Some (line (codes "error file " ++ decimal i ++ codes " too long"))
error_line TooManyFiles = Some (line (codes "error too many files"))
error_line (BadHistory k) = Some (line (codes "error history " ++ decimal k))
error_line (BadInput bad) = Some (line (codes "error " ++ bad_input_text bad))
error_line (BadLog k) = Some (line (codes "error log record " ++ decimal k))
error_line LogSpent = Some (line (codes "error log spent"))
error_line LogTooLarge = Some (line (codes "error log too large"))
error_line (BadOrder k) = Some (line (codes "error order " ++ decimal k))
error_line (BadEvidence i) = Some (line (codes "error evidence " ++ decimal i))
error_line Done = None
error_line Invalid = None
error_line ReadFault = None
error_line WriteFault = None
error_line Memory = None
error_line LogStopped = None

-- of words that aren't taken
abbrev pub of_words : WordsFault → Status
of_words words.Usage = Usage
of_words words.Memory = Memory

-- of session files that aren't run
abbrev pub of_run : RunFault → Status
of_run run.TooManyFiles = TooManyFiles
of_run run.ReadFault = ReadFault
of_run (run.TooLong file) = TooLong file
of_run (run.BadSession session line) = BadSession session line
of_run (run.BadHistory place) = BadHistory place
of_run run.Memory = Memory

-- of files that aren't validated
abbrev pub of_validation : ValidateFault → Status
of_validation validation.ReadFault = ReadFault
of_validation (validation.TooLong file) = TooLong file
of_validation (validation.BadInput bad) = BadInput bad
of_validation validation.Memory = Memory

-- of a log that isn't made
abbrev pub of_creation : CreateLogFault → Status
of_creation creation.ReadFault = ReadFault
of_creation creation.NotEmpty = BadLog 0
of_creation creation.Memory = Memory

-- of a log that isn't opened, or whose records restore no store
abbrev pub of_log : LogFault → Status
of_log log.ReadFault = ReadFault
of_log (log.BadLog entry) = BadLog entry
of_log log.Spent = LogSpent
of_log (log.Pattern node) = BadInput (bad.Pattern node)
of_log log.TooLarge = LogTooLarge
of_log log.Memory = Memory

-- of a log that isn't followed
abbrev pub of_following : FollowFault → Status
of_following following.ReadFault = ReadFault
of_following (following.TooLong file) = TooLong file
of_following (following.BadLog number) = BadLog number
of_following (following.BadOrder place) = BadOrder place
of_following following.Memory = Memory

-- of a run with a log, which failed or didn't
abbrev pub of_fault : Bool → Status
of_fault false = Done
of_fault true = LogStopped

-- of a validation, where the graph conforms or doesn't
abbrev pub of_conforms : Bool → Status
of_conforms true = Done
of_conforms false = Invalid
