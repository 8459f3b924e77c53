-- The commands of a session file, or the number of its first line that is no command. They are read first, and then the
-- shapes graphs among them are judged and their patterns made.
use Rattle.std.specs.Prelude.{◌≡◌, Bool, false, ℕ, zero, suc, ◌+◌, ◌||◌, List, [], ◌∷◌, ◌++◌, length, take, Option, Some, None, Result, Ok, Err, ◌==◌, if◌then◌else◌, slice_index, codes, bytes_eq}
use Rattle.std.specs.Option.{option_map}
use Rattle.std.specs.List.{slice_split, flat_map}
use Rattle.rdf_model.specs.declared.triple.Triple.{Triple}
use Rattle.rdf_model.specs.declared.pattern.Pattern.{Pattern}
use Rattle.outside.specs.Faults.{Refusal}
use Rattle.session_model.specs.declared.command.Command.{Command}
use Rattle.session_reader.specs.declared.line.Language.{Language}
use Rattle.session_reader.specs.declared.line.Language.TheVariants.{One, Two}
use Rattle.session_reader.specs.declared.line.Syntax.{Syntax}
use Rattle.session_reader.specs.declared.line.Syntax.TheVariants.{NTriples, Turtle}
use Rattle.session_reader.specs.declared.line.BlockKind.{BlockKind}
use Rattle.session_reader.specs.declared.line.BlockKind.TheVariants as blocks
use Rattle.session_reader.specs.declared.line.LineKind.{LineKind}
use Rattle.session_reader.specs.declared.line.LineKind.TheVariants.{Skipped, BeginCommand, CommitCommand, ReportCommand, AbortCommand, FindCommand, Block, SelectBlock, Other}
use Rattle.session_reader.specs.declared.read_command.ReadCommand.{ReadCommand}
use Rattle.session_reader.specs.declared.read_command.ReadCommand.TheVariants.{Begin, Add, BadAdd, Remove, BadRemove, Attach, BadAttach, Shapes, BadShapes, Commit, Find, Report, Abort}
use Rattle.rdf_lexical.specs.declared.refusal.RefusalKind.{RefusalKind}
use Rattle.ntriples_text.specs.Document.{reads, reads_named}
use Rattle.turtle_reader.specs.Document.{reads as turtle_reads}
use Rattle.rdf_lexical.specs.Refusals.{number_of}
use Rattle.session_reader.specs.FindLine.{find_of}
use Rattle.session_reader.specs.LineEnds.{without_cr}
use Rattle.session_reader.specs.SelectBlock.{select_of}
use Rattle.session_reader.specs.Checking.{AreChecked}

-- A line between commands, given the lines after it: the CR before an LF isn't part of it, and the last has no LF.
abbrev pub command_text : List ℕ → List (List ℕ) → List ℕ
command_text line [] = line
command_text line (next ∷ lines) = without_cr line

-- the lines of a file
abbrev pub file_lines : List ℕ → List (List ℕ)
file_lines bytes = slice_split (λ c. c == 10) bytes

-- The language of a file by its first line: 2 where that is the header `%session 2`, else 1.
abbrev pub language_by : List ℕ → Language
language_by line = if bytes_eq line (codes "%session 2") then Two else One

-- the language of a file with these lines
abbrev pub language_of : List (List ℕ) → Language
language_of [] = One
language_of (line ∷ lines) = language_by (command_text line lines)

-- how many lines a file of this language has before those of its commands: its header, where it has one
abbrev pub header_lines : Language → ℕ
header_lines One = 0
header_lines Two = 1

-- nothing, or a comment
abbrev pub is_skipped : List ℕ → Bool
is_skipped line = length line == 0 || slice_index line 0 == 35

-- the kind of block that follows a line in each language, if one does
abbrev pub common_block_kind : List ℕ → Option BlockKind
common_block_kind line = if bytes_eq line (codes "add ntriples") then Some (blocks.Add NTriples) else
    (if bytes_eq line (codes "add turtle") then Some (blocks.Add Turtle) else
    (if bytes_eq line (codes "remove ntriples") then Some blocks.Remove else
    (if bytes_eq line (codes "shapes ntriples") then Some (blocks.Shapes NTriples) else
    (if bytes_eq line (codes "shapes turtle") then Some (blocks.Shapes Turtle) else None))))

-- the kind of block of triples that follows a line, if one does; language 2 has one more
abbrev pub block_kind : Language → List ℕ → Option BlockKind
block_kind One line = common_block_kind line
block_kind Two line = if bytes_eq line (codes "attach ntriples") then Some blocks.Attach else common_block_kind line

-- a line that isn't a single word: the command of a block, a find, or no command
abbrev pub find_or_other : Option Pattern → LineKind
find_or_other (Some pattern) = FindCommand pattern
find_or_other None = Other

abbrev pub kind_of_words : Option BlockKind → Option Pattern → LineKind
kind_of_words (Some kind) pattern = Block kind
kind_of_words None pattern = find_or_other pattern

-- a select, in language 2 alone
abbrev pub is_select : Language → List ℕ → Bool
is_select One line = false
is_select Two line = bytes_eq line (codes "select")

-- what a line between commands is
abbrev pub kind_of : Language → List ℕ → LineKind
kind_of language line = if is_skipped line then Skipped else
    (if bytes_eq line (codes "begin") then BeginCommand else
    (if bytes_eq line (codes "commit") then CommitCommand else
    (if bytes_eq line (codes "report") then ReportCommand else
    (if bytes_eq line (codes "abort") then AbortCommand else
    (if is_select language line then SelectBlock else kind_of_words (block_kind language line) (find_of line))))))

-- the end of a block is `%%`, or that and a CR
abbrev pub is_block_end : List ℕ → Bool
is_block_end line = bytes_eq (without_cr line) (codes "%%")

-- how many lines stand before the first that ends a block, if one does
abbrev pub block_length : List (List ℕ) → Option ℕ
block_length [] = None
block_length (line ∷ lines) = if is_block_end line then Some 0 else option_map suc (block_length lines)

-- the text of a block: its lines, each with its LF
abbrev pub block_text : List (List ℕ) → List ℕ
block_text lines = flat_map (λ l. l ++ 10 ∷ []) lines

-- what a reading of an addition's block makes of it: its triples, or its refusal
abbrev pub add_of : Result (List Triple × ℕ) (ℕ × RefusalKind) → ReadCommand
add_of (Ok r) = Add r.0
add_of (Err e) = BadAdd e.0 (number_of e.1)

-- what a reading of a removal's block makes of it: its triples, or its refusal
abbrev pub remove_of : Result (List Triple × ℕ) (ℕ × RefusalKind) → ReadCommand
remove_of (Ok r) = Remove r.0
remove_of (Err e) = BadRemove e.0 (number_of e.1)

-- what a reading of an attachment's block makes of it: its triples, or its refusal
abbrev pub attach_of : Result (List Triple × ℕ) (ℕ × RefusalKind) → ReadCommand
attach_of (Ok r) = Attach r.0
attach_of (Err e) = BadAttach e.0 (number_of e.1)

-- what a reading of the block of shapes makes of it: its shapes graph, or its refusal
abbrev pub shapes_of : Result (List Triple × ℕ) (ℕ × RefusalKind) → ReadCommand
shapes_of (Ok r) = Shapes r.0
shapes_of (Err e) = BadShapes e.0 (number_of e.1)

-- the command of a block of this kind, after its reading
abbrev pub block_command : BlockKind → Result (List Triple × ℕ) (ℕ × RefusalKind) → ReadCommand
block_command (blocks.Add syntax) reading = add_of reading
block_command blocks.Remove reading = remove_of reading
block_command blocks.Attach reading = attach_of reading
block_command (blocks.Shapes syntax) reading = shapes_of reading

-- a reading in one of the languages, where each label is a new blank node
abbrev pub new_reading : Syntax → List ℕ → ℕ → ℕ → Result (List Triple × ℕ) (ℕ × RefusalKind)
new_reading NTriples text s first = reads text s first
new_reading Turtle text s first = turtle_reads text s first

-- a reading that numbers no blank node
abbrev pub numbering_none : ℕ → Result (List Triple) (ℕ × RefusalKind) → Result (List Triple × ℕ) (ℕ × RefusalKind)
numbering_none first (Ok ts) = Ok (ts, first)
numbering_none first (Err e) = Err e

-- The reading of a block of this kind, for session s, whose next blank node has the number first. The labels of a removal
-- and of an attachment are those of the store.
abbrev pub block_reading : BlockKind → List ℕ → ℕ → ℕ → Result (List Triple × ℕ) (ℕ × RefusalKind)
block_reading (blocks.Add syntax) text s first = new_reading syntax text s first
block_reading blocks.Remove text s first = numbering_none first (reads_named text)
block_reading blocks.Attach text s first = numbering_none first (reads_named text)
block_reading (blocks.Shapes syntax) text s first = new_reading syntax text s first

-- the next number of a blank node after a reading; a refused text uses none
abbrev pub next_after : ℕ → Result (List Triple × ℕ) (ℕ × RefusalKind) → ℕ
next_after first (Ok r) = r.1
next_after first (Err e) = first

-- one command more before the others
abbrev pub with_command : ReadCommand → Result (List ReadCommand) ℕ → Result (List ReadCommand) ℕ
with_command c (Ok cs) = Ok (c ∷ cs)
with_command c (Err n) = Err n

-- An item of a session file: a line that is skipped, a command, or a command with its block. It has the number of its
-- first line, what that line is, and where a block follows, the block's lines up to the first that ends it, if one does.
pub record Item : Type 0 where
  pub number : ℕ
  pub kind : LineKind
  pub block : Option (List (List ℕ))

-- the lines before the first that ends a block, if one does
abbrev pub block_lines : List (List ℕ) → Option (List (List ℕ))
block_lines lines = option_map (λ n. take n lines) (block_length lines)

-- the block of a command, given the lines after it
abbrev pub block_after : LineKind → List (List ℕ) → Option (List (List ℕ))
block_after (Block k) lines = block_lines lines
block_after SelectBlock lines = block_lines lines
block_after _ lines = None

-- how many lines an item has after its first: those of its block, and the one that ends it
abbrev pub lines_of_block : Option (List (List ℕ)) → ℕ
lines_of_block None = 0
lines_of_block (Some lines) = suc (length lines)

abbrev pub item_at : Language → ℕ → List ℕ → List (List ℕ) → Item
item_at language n line lines = let kind = kind_of language (command_text line lines) in record { number = n; kind = kind; block = block_after kind lines }

-- The items of the lines from number n on, after so many lines that belong to the item before.
abbrev pub items_after : Language → ℕ → ℕ → List (List ℕ) → List Item
items_after language skip n [] = []
items_after language (suc skip) n (line ∷ lines) = items_after language skip (n + 1) lines
items_after language zero n (line ∷ lines) = item_at language n line lines ∷ items_after language (lines_of_block (item_at language n line lines).block) (n + 1) lines

-- The items of the lines of a file. They stand behind its header, which counts as line 1.
abbrev pub items_of : List (List ℕ) → List Item
items_of lines = items_after (language_of lines) (header_lines (language_of lines)) 1 lines

-- What an item adds to the commands, where `more` is what the items after it give from the session's next blank node on.
-- A block that doesn't end is refused at its command.
abbrev pub with_item : ℕ → ℕ → ℕ → LineKind → Option (List (List ℕ)) → (ℕ → Result (List ReadCommand) ℕ) → Result (List ReadCommand) ℕ
with_item s first n Skipped block more = more first
with_item s first n BeginCommand block more = with_command Begin (more first)
with_item s first n CommitCommand block more = with_command Commit (more first)
with_item s first n ReportCommand block more = with_command Report (more first)
with_item s first n AbortCommand block more = with_command Abort (more first)
with_item s first n (FindCommand pattern) block more = with_command (Find pattern) (more first)
with_item s first n (Block k) (Some lines) more = let reading = block_reading k (block_text lines) s first in with_command (block_command k reading) (more (next_after first reading))
with_item s first n (Block k) None more = Err n
with_item s first n SelectBlock (Some lines) more = with_command (select_of lines) (more first)
with_item s first n SelectBlock None more = Err n
with_item s first n Other block more = Err n

-- the commands of items, or the number of the first line that is no command; the session's next blank node has the number
-- first
abbrev pub commands_of : ℕ → ℕ → List Item → Result (List ReadCommand) ℕ
commands_of s first [] = Ok []
commands_of s first (item ∷ items) = with_item s first item.number item.kind item.block (λ next. commands_of s next items)

-- The commands of session s as they are read, whose lines end with LF; or its first line that is no command. Its first
-- blank node has the number first.
abbrev pub session_of : ℕ → ℕ → List ℕ → Result (List ReadCommand) ℕ
session_of s first bytes = commands_of s first (items_of (file_lines bytes))

-- The commands of session s in this file, whose first blank node has the number first, where the patterns that were refused
-- are old before they are made, and new after.
abbrev pub IsSession : ℕ → ℕ → List ℕ → List Command → List Refusal → List Refusal → Type 0
IsSession s first bytes cs old new = (read : List ReadCommand) × (session_of s first bytes ≡ Ok read) × AreChecked read cs old new
