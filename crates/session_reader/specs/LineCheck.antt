-- What the lines of a session file tell, with none of its blocks read.
use Rattle.std.specs.Prelude.{◌≡◌, Bool, true, false, ℕ, List, [], ◌∷◌, Option, Some, None, Ok, if◌then◌else◌}
use Rattle.std.specs.List.{list_any}
use Rattle.session_reader.specs.declared.line.BlockKind.{BlockKind}
use Rattle.session_reader.specs.declared.line.BlockKind.TheVariants as blocks
use Rattle.session_reader.specs.declared.line.LineKind.{LineKind}
use Rattle.session_reader.specs.declared.line.LineKind.TheVariants.{Skipped, BeginCommand, CommitCommand, ReportCommand, AbortCommand, FindCommand, Block, SelectBlock, Other}
use Rattle.session_reader.specs.declared.prepare_fault.PrepareFault.{PrepareFault}
use Rattle.session_reader.specs.declared.read_command.ReadCommand.{ReadCommand}
use Rattle.session_reader.specs.declared.read_command.ReadCommand.TheVariants.{Begin, Add, BadAdd, Remove, BadRemove, Attach, BadAttach, Shapes, BadShapes, Commit, Find, Select, BadSelect, Report, Abort}
use Rattle.session_reader.specs.Faults.{Fails}
use Rattle.session_reader.specs.SessionFile.{Item, session_of}

-- a command of a shapes graph, whether or not its block can be read
abbrev pub is_of_shapes : ReadCommand → Bool
is_of_shapes Begin = false
is_of_shapes (Add ts) = false
is_of_shapes (BadAdd n kind) = false
is_of_shapes (Remove ts) = false
is_of_shapes (BadRemove n kind) = false
is_of_shapes (Attach ts) = false
is_of_shapes (BadAttach n kind) = false
is_of_shapes (Shapes ts) = true
is_of_shapes (BadShapes n kind) = true
is_of_shapes Commit = false
is_of_shapes (Find pattern) = false
is_of_shapes (Select ps) = false
is_of_shapes (BadSelect n) = false
is_of_shapes Report = false
is_of_shapes Abort = false

-- Whichever session has this file, and whatever number its first blank node has, it has commands; and this is whether one of
-- them is of a shapes graph.
abbrev pub HasCommands : Bool → List ℕ → Type 0
HasCommands shapes bytes = (s first : ℕ) → (read : List ReadCommand) × (session_of s first bytes ≡ Ok read) × (list_any is_of_shapes read ≡ shapes)

-- none has: the fault is what each reading gives, unless memory ran out
abbrev pub HasNoCommands : PrepareFault → List ℕ → Type 0
HasNoCommands fault bytes = (s first : ℕ) → Fails fault (session_of s first bytes)

-- the block doesn't end
abbrev pub is_open : Option (List (List ℕ)) → Bool
is_open None = true
is_open (Some lines) = false

-- an item that is no command: another line, or a block that doesn't end
abbrev pub is_bad : LineKind → Option (List (List ℕ)) → Bool
is_bad Skipped block = false
is_bad BeginCommand block = false
is_bad CommitCommand block = false
is_bad ReportCommand block = false
is_bad AbortCommand block = false
is_bad (FindCommand pattern) block = false
is_bad (Block k) block = is_open block
is_bad SelectBlock block = is_open block
is_bad Other block = true

-- the first line of the first item that is no command, if there is one
abbrev pub first_bad : List Item → Option ℕ
first_bad [] = None
first_bad (item ∷ items) = if is_bad item.kind item.block then Some item.number else first_bad items

-- the block of a shapes graph
abbrev pub is_shapes_block : BlockKind → Bool
is_shapes_block (blocks.Add syntax) = false
is_shapes_block blocks.Remove = false
is_shapes_block blocks.Attach = false
is_shapes_block (blocks.Shapes syntax) = true

-- its command
abbrev pub is_shapes_line : LineKind → Bool
is_shapes_line (Block k) = is_shapes_block k
is_shapes_line Skipped = false
is_shapes_line BeginCommand = false
is_shapes_line CommitCommand = false
is_shapes_line ReportCommand = false
is_shapes_line AbortCommand = false
is_shapes_line (FindCommand pattern) = false
is_shapes_line SelectBlock = false
is_shapes_line Other = false

-- one of the items is of a shapes graph
abbrev pub any_shapes : List Item → Bool
any_shapes items = list_any (λ (item : Item). is_shapes_line item.kind) items
