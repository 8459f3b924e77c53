-- What the program has to print, and with which status, by the request of the words; and which files are loaded.
use Rattle.std.specs.Prelude.{◌≡◌, ◌≢◌, ◌⊎◌, ℕ, Bool, List, [], ◌++◌, Option, Some, None, codes}
use Rattle.std.specs.Fmt.{decimal}
use Rattle.outside.specs.Files.{Contents}
use Rattle.session_model.specs.Print.{line}
use Rattle.follow_command.specs.declared.fault.FollowFault.{FollowFault}
use Rattle.follow_command.specs.Faults.{StopsFollow}
use Rattle.follow_command.specs.Followed.{AreFollowed}
use Rattle.input_files.specs.Loads.{Loads, LoadsFirst, NoneFailed, NoneRefused}
use Rattle.session_files.specs.declared.fault.RunFault.{RunFault}
use Rattle.session_files.specs.Runs.{AreRun, empty_start}
use Rattle.session_files.specs.Faults.{StopsRun}
use Rattle.generate_command.specs.Load.{IsLoad}
use Rattle.file_validation.specs.declared.validating.EvidenceVerdict.{EvidenceVerdict}
use Rattle.file_validation.specs.declared.validating.EvidenceVerdict.TheVariants.{Verified, Wrong}
use Rattle.validate_command.specs.declared.fault.ValidateFault.{ValidateFault}
use Rattle.validate_command.specs.Validated.{AreExplained, AreValidated}
use Rattle.validate_command.specs.Faults.{StopsValidation}
use Rattle.validate_command.specs.Verified.{AreVerified, StopsVerification}
use Rattle.shacl_guard.specs.declared.request.PlainRequest.{PlainRequest}
use Rattle.shacl_guard.specs.declared.request.PlainRequest.TheVariants.{Sessions, Validation, Explanation, Verification, Following, Load}
use Rattle.shacl_guard.specs.declared.status.Status.{Status}
use Rattle.shacl_guard.specs.declared.status.Status.TheVariants.{Done, Usage, ReadFault, Memory, BadEvidence}
use Rattle.shacl_guard.specs.Requests.{files_in, request_of}
use Rattle.shacl_guard.specs.Statuses.{error_line, of_conforms, of_following, of_run, of_validation}

-- no file was loaded
abbrev pub LoadsNone : Loads → Loads → Type 0
LoadsNone before after = (after.loaded ≡ before.loaded) × NoneFailed before after

-- the text of a verdict, with Done where each block shows its result
abbrev pub IsTold : EvidenceVerdict → Status → List ℕ → Type 0
IsTold (Verified blocks) s text = (s ≡ Done) × (text ≡ line (codes "valid " ++ decimal blocks))
IsTold (Wrong block) s text = ⊥

-- there is none where a block is wrong, which the status tells, or where memory ran out
abbrev pub TellsNone : EvidenceVerdict → Status → Type 0
TellsNone (Verified blocks) s = s ≡ Memory
TellsNone (Wrong block) s = s ≡ BadEvidence block

-- The text that a request gives, with its status: what sessions print, with Done; the report of a validation, or the evidence of
-- its results, with Done where the graph conforms and with Invalid where it doesn't; how many blocks of evidence are verified, with
-- Done; what a follower of a log answers, with Done; what is told of a generated load, with Done. All its files were loaded.
abbrev pub Gives : Option Contents → PlainRequest → Status → Loads → Loads → List ℕ → Type 0
Gives held (Sessions r) s before after text = (s ≡ Done) × AreRun held empty_start r None before after text
Gives held (Validation v) s before after text = (conforms : Bool) × (s ≡ of_conforms conforms) × AreValidated held v before after (record { conforms = conforms; report = text })
Gives held (Explanation v) s before after text = (conforms : Bool) × (s ≡ of_conforms conforms) × AreExplained held v before after (record { conforms = conforms; blocks = text })
Gives held (Verification v) s before after text = (verdict : EvidenceVerdict) × AreVerified held v before after verdict × IsTold verdict s text
Gives held (Following f) s before after text = (s ≡ Done) × AreFollowed held f before after text × NoneRefused before after
Gives held (Load n) s before after text = (s ≡ Done) × IsLoad n before.refused after.refused text × LoadsNone before after

-- Why it gives none, as the status tells it. The files up to the one that decided it were loaded. Evidence gives none where a
-- block is wrong, behind all that is wrong with the files. A generated load gives none only where memory ran out.
abbrev pub StopsRequest : Status → Option Contents → PlainRequest → Loads → Loads → Type 0
StopsRequest s held (Sessions r) before after = (fault : RunFault) × (s ≡ of_run fault) × StopsRun fault held [] r before after
StopsRequest s held (Validation v) before after = (fault : ValidateFault) × (s ≡ of_validation fault) × StopsValidation fault held v before after
StopsRequest s held (Explanation v) before after = (fault : ValidateFault) × (s ≡ of_validation fault) × StopsValidation fault held v before after
StopsRequest s held (Verification v) before after =
    ((fault : ValidateFault) × (s ≡ of_validation fault) × StopsVerification fault held v before after) ⊎ ((verdict : EvidenceVerdict) × AreVerified held v before after verdict × TellsNone verdict s)
StopsRequest s held (Following f) before after = (fault : FollowFault) × (s ≡ of_following fault) × StopsFollow fault held f before after × NoneRefused before after
StopsRequest s held (Load n) before after = (s ≡ Memory) × LoadsNone before after

-- its text is due, or the line of the error
abbrev pub IsRequestDue : Option Contents → PlainRequest → Status → Loads → Loads → List ℕ → Type 0
IsRequestDue held q s before after text = Gives held q s before after text ⊎ (StopsRequest s held q before after × (error_line s ≡ Some text))

-- words that aren't taken are Usage, and nothing is loaded
abbrev pub IsDueOf : Option Contents → Option PlainRequest → Status → Loads → Loads → List ℕ → Type 0
IsDueOf held None s before after text = (s ≡ Usage) × (after ≡ before) × (error_line s ≡ Some text)
IsDueOf held (Some q) s before after text = IsRequestDue held q s before after text

-- The whole text that is due for the words, and the status that it comes with.
abbrev pub IsDue : List (List ℕ) → Option Contents → Status → Loads → Loads → List ℕ → Type 0
IsDue words held s before after text = IsDueOf held (request_of words) s before after text

-- the load of a file failed
abbrev pub FailsLoad : Option Contents → Option PlainRequest → Loads → Loads → Type 0
FailsLoad held None before after = ⊥
FailsLoad held (Some q) before after = StopsRequest ReadFault held q before after

-- memory ran out: some of the files were loaded, and no load failed
abbrev pub RunsOut : Option PlainRequest → Loads → Loads → Type 0
RunsOut q before after = LoadsFirst (files_in q) before after × NoneFailed before after

-- nothing is due
abbrev pub Fails : Status → Option Contents → Option PlainRequest → Loads → Loads → Type 0
Fails ReadFault held q before after = FailsLoad held q before after
Fails Memory held q before after = RunsOut q before after
Fails _ held q before after = ⊥

-- a status without a line tells nothing; nor is a line told for which memory ran out
abbrev pub TellsNothing : Status → Status → Type 0
TellsNothing status s = ((s ≡ status) × (error_line status ≡ None)) ⊎ ((s ≡ Memory) × (error_line status ≢ None))
