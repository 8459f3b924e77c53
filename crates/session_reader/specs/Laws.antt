-- Laws of session files.
use Rattle.std.specs.Prelude.{◌≡◌, Bool, true, false, ℕ, List, ◌∷◌, ◌++◌, Ok, codes}
use Rattle.std.specs.List.{AllByRecursion}
use Rattle.outside.specs.Faults.{Refusal}
use Rattle.session_model.specs.declared.command.Command.{Command}
use Rattle.session_reader.specs.declared.line.Language.TheVariants.{One}
use Rattle.session_reader.specs.declared.read_command.ReadCommand.{ReadCommand}
use Rattle.session_reader.specs.declared.read_command.ReadCommand.TheVariants.{Attach, BadAttach, Select, BadSelect}
use Rattle.session_reader.specs.SessionFile.{IsSession, file_lines, language_of, session_of}

-- a file of which no pattern is refused has one list of commands
abbrev pub FileHasOneSession : Type 0
FileHasOneSession = (s first : ℕ) (bytes : List ℕ) (cs ds : List Command) (old other : List Refusal) → IsSession s first bytes cs old old → IsSession s first bytes ds other other → ds ≡ cs

-- the file without a header has these commands
abbrev pub ReadsWithoutHeader : ℕ → ℕ → List ℕ → List ReadCommand → Type 0
ReadsWithoutHeader s first bytes read = (language_of (file_lines bytes) ≡ One) × (session_of s first bytes ≡ Ok read)

-- behind a header it has the same
abbrev pub HeaderKeepsCommands : Type 0
HeaderKeepsCommands = (s first : ℕ) (bytes : List ℕ) (read : List ReadCommand) → ReadsWithoutHeader s first bytes read → session_of s first (codes "%session 2" ++ 10 ∷ bytes) ≡ Ok read

-- a command that the second language adds
abbrev pub is_added : ReadCommand → Bool
is_added (Attach ts) = true
is_added (BadAttach n kind) = true
is_added (Select ps) = true
is_added (BadSelect n) = true
is_added _ = false

-- and none of them is one that the second language adds
abbrev pub AddedCommandsNeedHeader : Type 0
AddedCommandsNeedHeader = (s first : ℕ) (bytes : List ℕ) (read : List ReadCommand) → ReadsWithoutHeader s first bytes read → AllByRecursion (λ c. is_added c ≡ false) read
