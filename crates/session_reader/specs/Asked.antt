-- Which patterns the maker is asked for: those of the shapes graphs of a session file, block by block in the order of the
-- file.
use Rattle.std.specs.Prelude.{◌≡◌, ◌⊎◌, ℕ, List, [], ◌∷◌, Result, Ok, Err}
use Rattle.rdf_model.specs.declared.triple.Triple.{Triple}
use Rattle.outside.specs.Faults.{Refusal, Request}
use Rattle.shape_reader.specs.Asked.{AsksAll, AsksSome, AsksUpTo}
use Rattle.session_model.specs.declared.command.Command.{Command}
use Rattle.session_model.specs.declared.command.Command.TheVariants as commands
use Rattle.session_reader.specs.declared.prepare_fault.PrepareFault.{PrepareFault}
use Rattle.session_reader.specs.declared.prepare_fault.PrepareFault.TheVariants.{Line, Memory}
use Rattle.session_reader.specs.declared.read_command.ReadCommand.{ReadCommand}
use Rattle.session_reader.specs.declared.read_command.ReadCommand.TheVariants.{Shapes}
use Rattle.session_reader.specs.Checking.{IsChecked}
use Rattle.session_reader.specs.SessionFile.{session_of}

-- Of a shapes graph that was read, where what had been asked is old before, and new after: all its patterns where it is
-- staged, those up to the refused one where one is, and none where it breaks a rule.
abbrev pub AsksOfGraph : List Triple → Command → List Request → List Request → Type 0
AsksOfGraph ts (commands.Shapes g) old new = AsksAll ts old new
AsksOfGraph ts (commands.RefusedPattern n) old new = AsksUpTo ts n old new
AsksOfGraph ts _ old new = new ≡ old

-- of any other read command nothing is asked
abbrev pub AsksOf : ReadCommand → Command → List Request → List Request → Type 0
AsksOf (Shapes ts) c old new = AsksOfGraph ts c old new
AsksOf _ c old new = new ≡ old

-- of one read command after another, each of which became a command
abbrev pub AsksOfEach : List ReadCommand → List Command → List Request → List Request → Type 0
AsksOfEach [] [] old new = new ≡ old
AsksOfEach [] (c ∷ cs) old new = ⊥
AsksOfEach (r ∷ rs) [] old new = ⊥
AsksOfEach (r ∷ rs) (c ∷ cs) old new = (mid : List Request) × AsksOf r c old mid × AsksOfEach rs cs mid new

-- some of the patterns of a read command, from the first on
abbrev pub AsksPart : ReadCommand → List Request → List Request → Type 0
AsksPart (Shapes ts) old new = AsksSome ts old new
AsksPart _ old new = new ≡ old

-- Where memory ran out: the read commands before one were checked, with what was refused so far, and some of the patterns
-- of that one were asked.
abbrev pub AsksFirst : List ReadCommand → List Refusal → List Refusal → List Request → List Request → Type 0
AsksFirst [] refused after old new = (after ≡ refused) × (new ≡ old)
AsksFirst (r ∷ rs) refused after old new = ((after ≡ refused) × AsksPart r old new)
    ⊎ ((c : Command) × (between : List Refusal) × (mid : List Request) × IsChecked r c refused between × AsksOf r c old mid × AsksFirst rs between after mid new)

-- of a file that can't be read nothing is asked
abbrev pub AsksFirstOf : Result (List ReadCommand) ℕ → List Refusal → List Refusal → List Request → List Request → Type 0
AsksFirstOf (Ok read) refused after old new = AsksFirst read refused after old new
AsksFirstOf (Err n) refused after old new = (after ≡ refused) × (new ≡ old)

-- of the file of session s that has these commands, whose first blank node has the number first
abbrev pub AsksOfSession : ℕ → ℕ → List ℕ → List Command → List Request → List Request → Type 0
AsksOfSession s first bytes cs old new = (read : List ReadCommand) × (session_of s first bytes ≡ Ok read) × AsksOfEach read cs old new

-- of one of which no session was prepared
abbrev pub AsksInVain : ℕ → ℕ → List ℕ → PrepareFault → List Refusal → List Refusal → List Request → List Request → Type 0
AsksInVain s first bytes (Line n) refused after old new = new ≡ old
AsksInVain s first bytes Memory refused after old new = AsksFirstOf (session_of s first bytes) refused after old new
