-- What the verification of a file of evidence gives, or why there is none.
use Rattle.std.specs.Prelude.{◌≡◌, ◌⊎◌, ℕ, List, [], ◌∷◌, Option}
use Rattle.outside.specs.Files.{Contents}
use Rattle.input_files.specs.Lengths.{HoldsText, IsTooLong}
use Rattle.input_files.specs.Loads.{Loads, LoadsFirst, LoadsSome, NoneFailed, NoneRefused, OnlyFailed}
use Rattle.file_validation.specs.declared.validating.EvidenceVerdict.{EvidenceVerdict}
use Rattle.file_validation.specs.Validations.{IsVerdictOn}
use Rattle.validate_command.specs.declared.fault.ValidateFault.{ValidateFault}
use Rattle.validate_command.specs.declared.fault.ValidateFault.TheVariants as fault
use Rattle.validate_command.specs.declared.validated_files.VerifiedFiles.{VerifiedFiles}
use Rattle.validate_command.specs.Faults.{HaveCause, IsFirst}
use Rattle.validate_command.specs.Validated.{HoldTexts}

-- all three files, in the order in which they are loaded
abbrev pub three_files : VerifiedFiles → List (List ℕ)
three_files v = v.graphs.data_file ∷ v.graphs.shapes_file ∷ v.evidence_file ∷ []

-- all were loaded, each once, in order, and no other
abbrev pub LoadsAll : VerifiedFiles → Loads → Loads → Type 0
LoadsAll v before after = LoadsSome 3 (three_files v) before after × NoneFailed before after

-- the files hold these texts, within their length
abbrev pub HoldAll : Option Contents → VerifiedFiles → List ℕ → List ℕ → List ℕ → Type 0
HoldAll held v data_text shapes_text evidence_text = HoldTexts held v.graphs data_text shapes_text × HoldsText held v.evidence_file evidence_text

-- It is the verdict on the third file's text as evidence of results of validating the first file's graph by the second's; no
-- pattern was refused.
abbrev pub AreVerified : Option Contents → VerifiedFiles → Loads → Loads → EvidenceVerdict → Type 0
AreVerified held v before after verdict =
    (data_text : List ℕ) × (shapes_text : List ℕ) × (evidence_text : List ℕ) × HoldAll held v data_text shapes_text evidence_text × IsVerdictOn data_text shapes_text evidence_text verdict × LoadsAll v before after × NoneRefused before after

-- file f is the first of the three that is so: the data is file 1, the shapes are file 2, and the evidence is file 3, where both
-- others hold a text
abbrev pub IsFirstOf : Option Contents → VerifiedFiles → ℕ → (List ℕ → Type 0) → Type 0
IsFirstOf held v f P = IsFirst held v.graphs f P ⊎ ((f ≡ 3) × ((data_text : List ℕ) × (shapes_text : List ℕ) × HoldTexts held v.graphs data_text shapes_text) × P v.evidence_file)

-- Why: the load of a file failed; or a file is too long; or the texts of the data and the shapes are refused, and all files were
-- loaded; or memory ran out. The files up to the one that decided it were loaded.
abbrev pub StopsVerification : ValidateFault → Option Contents → VerifiedFiles → Loads → Loads → Type 0
StopsVerification fault.ReadFault held v before after = (f : ℕ) × IsFirstOf held v f (λ name. OnlyFailed name before after) × LoadsSome f (three_files v) before after × NoneRefused before after
StopsVerification (fault.TooLong f) held v before after = IsFirstOf held v f (IsTooLong held) × LoadsSome f (three_files v) before after × NoneFailed before after × NoneRefused before after
StopsVerification (fault.BadInput bad) held v before after = HaveCause held v.graphs before after (fault.BadInput bad) × LoadsAll v before after
StopsVerification fault.Memory held v before after = LoadsFirst (three_files v) before after × NoneFailed before after × NoneRefused before after
