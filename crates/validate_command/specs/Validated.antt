-- What the validation of two files gives, and what its explanation does.
use Rattle.std.specs.Prelude.{ℕ, List, [], ◌∷◌, Option}
use Rattle.outside.specs.Files.{Contents}
use Rattle.input_files.specs.Lengths.{HoldsText}
use Rattle.input_files.specs.Loads.{Loads, LoadsSome, NoneFailed, NoneRefused}
use Rattle.file_validation.specs.declared.validating.Explanation.{Explanation}
use Rattle.file_validation.specs.declared.validating.Validation.{Validation}
use Rattle.file_validation.specs.Validations.{IsExplanationOf, IsValidation}
use Rattle.validate_command.specs.declared.validated_files.ValidatedFiles.{ValidatedFiles}

-- both files, in the order in which they are loaded
abbrev pub both_files : ValidatedFiles → List (List ℕ)
both_files v = v.data_file ∷ v.shapes_file ∷ []

-- both were loaded, each once, in order, and no other
abbrev pub LoadsBoth : ValidatedFiles → Loads → Loads → Type 0
LoadsBoth v before after = LoadsSome 2 (both_files v) before after × NoneFailed before after

-- the files hold these texts, within their length
abbrev pub HoldTexts : Option Contents → ValidatedFiles → List ℕ → List ℕ → Type 0
HoldTexts held v data_text shapes_text = HoldsText held v.data_file data_text × HoldsText held v.shapes_file shapes_text

-- It is the validation of the data file's graph by the shapes file's graph; no pattern was refused.
abbrev pub AreValidated : Option Contents → ValidatedFiles → Loads → Loads → Validation → Type 0
AreValidated held v before after validation =
    (data_text : List ℕ) × (shapes_text : List ℕ) × HoldTexts held v data_text shapes_text × IsValidation data_text shapes_text validation × LoadsBoth v before after × NoneRefused before after

-- It is the explanation of that validation; no pattern was refused.
abbrev pub AreExplained : Option Contents → ValidatedFiles → Loads → Loads → Explanation → Type 0
AreExplained held v before after explanation =
    (data_text : List ℕ) × (shapes_text : List ℕ) × HoldTexts held v data_text shapes_text × IsExplanationOf data_text shapes_text explanation × LoadsBoth v before after × NoneRefused before after
