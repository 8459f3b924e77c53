-- How far the loading of session files has come.
use Rattle.std.specs.Prelude.{ℕ, List, take, Option}
use Rattle.outside.specs.Files.{Contents}
use Rattle.session_files.specs.declared.reading.LoadedFile.{LoadedFile}
use Rattle.session_files.specs.Reading.{HoldFiles}
use Rattle.input_files.specs.Loads.{Loads, LoadsSome, NoneFailed}

-- the first k files were loaded: these
pub record LoadedSoFar (held : Option Contents) (firsts : List ℕ) (names : List (List ℕ)) (k : ℕ) (before after : Loads) (all : List LoadedFile) : Type 0 where
  pub files : HoldFiles held firsts 1 (take k names) all before.refused after.refused
  pub loaded : LoadsSome k names before after
  pub failed : NoneFailed before after
