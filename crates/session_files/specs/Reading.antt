-- Session files that were loaded, and what is read of them: prepared, or their blocks, where none of them is of a shapes graph.
use Rattle.std.specs.Prelude.{◌≡◌, ℕ, ◌+◌, ◌<◌, ◌≤◌, false, List, [], ◌∷◌, ◌++◌, length, IfOk, Option, Some, None, Result, Ok}
use Rattle.std.specs.declared.alloc.AllocError.{AllocError}
use Rattle.outside.specs.Faults.{Refusal}
use Rattle.outside.specs.Files.{Contents, Loads}
use Rattle.input_files.specs.Lengths.{room}
use Rattle.session_model.specs.declared.command.Command.{Command}
use Rattle.session_reader.specs.declared.read_command.ReadCommand.{ReadCommand}
use Rattle.session_reader.specs.declared.prepare_fault.PrepareFault.{PrepareFault}
use Rattle.session_reader.specs.declared.prepare_fault.PrepareFault.TheVariants as prepare
use Rattle.session_reader.specs.Checking.{AreChecked}
use Rattle.session_reader.specs.LineCheck.{HasCommands}
use Rattle.session_reader.specs.SessionFile.{session_of}
use Rattle.session_files.specs.declared.fault.RunFault.{RunFault}
use Rattle.session_files.specs.declared.fault.RunFault.TheVariants.{BadSession, Memory}
use Rattle.session_files.specs.declared.reading.SessionText.{SessionText}
use Rattle.session_files.specs.declared.reading.LoadedFile.{LoadedFile}
use Rattle.session_files.specs.declared.reading.LoadedFile.TheVariants.{Prepared, Unread}
use Rattle.session_files.specs.Loading.{AreSession, IsFirstNumber, first_of}

-- why the bytes of session i gave no commands
abbrev pub of_session : PrepareFault → ℕ → RunFault
of_session (prepare.Line n) i = BadSession i n
of_session prepare.Memory i = Memory

-- a text whose blocks may be read
pub record IsReadableText (t : SessionText) : Type 0 where
  pub low : 1 ≤ t.session
  pub high : t.session ≤ 64
  pub number : IsFirstNumber t.first
  pub short : length t.bytes.items < room

-- the text of session i, whose first blank node has the number n; no command of it is of a shapes graph
pub record IsText (t : SessionText) (i n : ℕ) (bytes : List ℕ) : Type 0 where
  pub readable : IsReadableText t
  pub is_session : t.session ≡ i
  pub is_first : t.first ≡ n
  pub are_bytes : t.bytes.items ≡ bytes
  pub lines : HasCommands false bytes

-- these bytes, as the file of session i
abbrev pub IsLoaded : LoadedFile → ℕ → ℕ → List ℕ → List Refusal → List Refusal → Type 0
IsLoaded (Prepared commands) i n bytes old new = AreSession i n bytes commands old new
IsLoaded (Unread t) i n bytes old new = IsText t i n bytes × (new ≡ old)

abbrev pub HoldsFile : Option Contents → List ℕ → ℕ → List ℕ → LoadedFile → List Refusal → List Refusal → Type 0
HoldsFile held firsts i name file old new = (bytes : List ℕ) × Loads held name room bytes × IsLoaded file i (first_of firsts i) bytes old new

-- the files of the sessions from number i on; each goes on from the patterns that were refused so far
abbrev pub HoldFiles : Option Contents → List ℕ → ℕ → List (List ℕ) → List LoadedFile → List Refusal → List Refusal → Type 0
HoldFiles held firsts i [] [] old new = new ≡ old
HoldFiles held firsts i (name ∷ names) (file ∷ files) old new = (mid : List Refusal) × HoldsFile held firsts i name file old mid × HoldFiles held firsts (i + 1) names files mid new
HoldFiles held firsts i [] (file ∷ files) old new = ⊥
HoldFiles held firsts i (name ∷ names) [] old new = ⊥

-- the commands of a file that was prepared
abbrev pub prepared_of : LoadedFile → Option (List Command)
prepared_of (Prepared commands) = Some commands
prepared_of (Unread t) = None

-- the text of one that wasn't
abbrev pub text_of : LoadedFile → List SessionText
text_of (Prepared commands) = []
text_of (Unread t) = t ∷ []

-- the texts of those that weren't, in their order
abbrev pub texts_of : List LoadedFile → List SessionText
texts_of [] = []
texts_of (file ∷ files) = text_of file ++ texts_of files

-- what was read of a text, where there was the memory for it
abbrev pub IsRead : SessionText → Result (List ReadCommand) AllocError → Type 0
IsRead t r = IfOk r (λ read. session_of t.session t.first t.bytes.items ≡ Ok read)

-- of each
abbrev pub AreRead : List SessionText → List (Result (List ReadCommand) AllocError) → Type 0
AreRead [] [] = Unit {0}
AreRead (t ∷ ts) (r ∷ rs) = IsRead t r × AreRead ts rs
AreRead [] (r ∷ rs) = ⊥
AreRead (t ∷ ts) [] = ⊥

-- the commands of a file: those that were prepared, or those of the next text that was read
abbrev pub IsNext : Option (List Command) → List (Result (List ReadCommand) AllocError) → List (Result (List ReadCommand) AllocError) → List Command → List Refusal → List Refusal → Type 0
IsNext (Some same) rs rest commands old new = (commands ≡ same) × (rest ≡ rs) × (new ≡ old)
IsNext None rs rest commands old new = (read : List ReadCommand) × (rs ≡ Ok read ∷ rest) × AreChecked read commands old new

-- of each
abbrev pub AreFinished : List (Option (List Command)) → List (Result (List ReadCommand) AllocError) → List (List Command) → List Refusal → List Refusal → Type 0
AreFinished [] rs [] old new = new ≡ old
AreFinished (file ∷ files) rs (commands ∷ more) old new = (rest : List (Result (List ReadCommand) AllocError)) × (mid : List Refusal) × IsNext file rs rest commands old mid × AreFinished files rest more mid new
AreFinished [] rs (commands ∷ more) old new = ⊥
AreFinished (file ∷ files) rs [] old new = ⊥
