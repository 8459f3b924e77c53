-- Why two files aren't validated.
use Rattle.std.specs.Prelude.{◌≡◌, ◌⊎◌, ℕ, List, Option}
use Rattle.outside.specs.Files.{Contents}
use Rattle.input_files.specs.declared.file.FileFault.{FileFault}
use Rattle.input_files.specs.declared.file.FileFault.TheVariants as file
use Rattle.input_files.specs.Lengths.{HoldsText, IsTooLong}
use Rattle.input_files.specs.Loads.{Loads, LoadsFirst, LoadsSome, NoneFailed, NoneRefused, OnlyFailed}
use Rattle.file_validation.specs.declared.fault.InputFault.{InputFault}
use Rattle.file_validation.specs.declared.fault.InputFault.TheVariants as texts
use Rattle.file_validation.specs.Validations.{IsCause}
use Rattle.validate_command.specs.declared.bad_input.BadInput.TheVariants.{Data, Shapes, Rule, Pattern}
use Rattle.validate_command.specs.declared.fault.ValidateFault.{ValidateFault}
use Rattle.validate_command.specs.declared.fault.ValidateFault.TheVariants as fault
use Rattle.validate_command.specs.declared.validated_files.ValidatedFiles.{ValidatedFiles}
use Rattle.validate_command.specs.Validated.{HoldTexts, LoadsBoth, both_files}

-- a fault of two texts, as it is told of their files
abbrev pub of_texts : InputFault → ValidateFault
of_texts (texts.Data line kind) = fault.BadInput (Data line kind)
of_texts (texts.Shapes line kind) = fault.BadInput (Shapes line kind)
of_texts (texts.Rule row) = fault.BadInput (Rule row)
of_texts (texts.Pattern node) = fault.BadInput (Pattern node)
of_texts texts.Memory = fault.Memory

-- why file f gave no text
abbrev pub of_file : FileFault → ℕ → ValidateFault
of_file file.Failed f = fault.ReadFault
of_file file.TooLong f = fault.TooLong f
of_file file.Memory f = fault.Memory

-- the fault is one of a file that gave no text
abbrev pub IsFileFault : ValidateFault → Type 0
IsFileFault fault.ReadFault = Unit {0}
IsFileFault (fault.TooLong f) = Unit {0}
IsFileFault (fault.BadInput bad) = ⊥
IsFileFault fault.Memory = Unit {0}

-- file f is the first of the two that is so: the data is file 1, and holds a text where the shapes, file 2, are so
abbrev pub IsFirst : Option Contents → ValidatedFiles → ℕ → (List ℕ → Type 0) → Type 0
IsFirst held v f P = ((f ≡ 1) × P v.data_file) ⊎ ((f ≡ 2) × ((text : List ℕ) × HoldsText held v.data_file text) × P v.shapes_file)

-- the texts of the files are refused, as the fault tells it
abbrev pub HaveCause : Option Contents → ValidatedFiles → Loads → Loads → ValidateFault → Type 0
HaveCause held v before after told =
    (data_text : List ℕ) × (shapes_text : List ℕ) × HoldTexts held v data_text shapes_text × ((cause : InputFault) × (told ≡ of_texts cause) × IsCause data_text shapes_text before.refused after.refused cause)

-- Why: the load of the first file failed, or that of the second; or a file is too long; or the texts are refused; or memory
-- ran out. The files up to the one that decided it were loaded.
abbrev pub StopsValidation : ValidateFault → Option Contents → ValidatedFiles → Loads → Loads → Type 0
StopsValidation fault.ReadFault held v before after = (f : ℕ) × IsFirst held v f (λ name. OnlyFailed name before after) × LoadsSome f (both_files v) before after × NoneRefused before after
StopsValidation (fault.TooLong f) held v before after = IsFirst held v f (IsTooLong held) × LoadsSome f (both_files v) before after × NoneFailed before after × NoneRefused before after
StopsValidation (fault.BadInput bad) held v before after = HaveCause held v before after (fault.BadInput bad) × LoadsBoth v before after
StopsValidation fault.Memory held v before after = LoadsFirst (both_files v) before after × NoneFailed before after × NoneRefused before after
