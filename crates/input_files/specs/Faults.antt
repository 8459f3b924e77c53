-- Why a file gave no text.
use Rattle.std.specs.Prelude.{◌≡◌, ◌⊎◌, ℕ, List, Option}
use Rattle.outside.specs.Files.{Contents}
use Rattle.input_files.specs.declared.file.FileFault.{FileFault}
use Rattle.input_files.specs.declared.file.FileFault.TheVariants.{Failed, TooLong, Memory}
use Rattle.input_files.specs.Lengths.{IsTooLong}
use Rattle.input_files.specs.Loads.{Loads, LoadsOne, NoneFailed, OnlyFailed}

-- its load failed; or it has too many bytes; or memory ran out, and the load was made or not
abbrev pub IsCause : FileFault → Option Contents → List ℕ → Loads → Loads → Type 0
IsCause Failed held name before after = OnlyFailed name before after × LoadsOne name before after
IsCause TooLong held name before after = IsTooLong held name × LoadsOne name before after × NoneFailed before after
IsCause Memory held name before after = ((after.loaded ≡ before.loaded) ⊎ LoadsOne name before after) × NoneFailed before after
