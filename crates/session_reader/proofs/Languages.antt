-- The two languages of session files: what is read in the first is read so in the second.
use Rattle.std.proofs.Common.{◌≡◌, ◌⊎◌, ℕ, zero, suc, ◌+◌, ◌==◌, Bool, true, false, cond, List, [], ◌∷◌, Option, Some, None, Result, Ok, Err, refl, sym, ap, subst, inl, inr, ◌∙◌, codes, bytes_eq}
use Rattle.std.specs.List.{AllByRecursion}
use Rattle.std.proofs.lemmas.Slice.Eq.{bytes_eq-Decides}
use Rattle.rdf_model.specs.declared.triple.Triple.{Triple}
use Rattle.rdf_model.specs.declared.pattern.Pattern.{Pattern}
use Rattle.rdf_lexical.specs.declared.refusal.RefusalKind.{RefusalKind}
use Rattle.session_reader.specs.declared.line.BlockKind.{BlockKind}
use Rattle.session_reader.specs.declared.line.BlockKind.TheVariants as blocks
use Rattle.session_reader.specs.declared.line.Language.{Language}
use Rattle.session_reader.specs.declared.line.Language.TheVariants.{One, Two}
use Rattle.session_reader.specs.declared.line.LineKind.{LineKind}
use Rattle.session_reader.specs.declared.line.LineKind.TheVariants.{Skipped, BeginCommand, CommitCommand, ReportCommand, AbortCommand, FindCommand, Block, SelectBlock, Other}
use Rattle.session_reader.specs.declared.line.Syntax.TheVariants.{NTriples, Turtle}
use Rattle.session_reader.specs.declared.read_command.ReadCommand.{ReadCommand}
use Rattle.session_reader.specs.declared.read_command.ReadCommand.TheVariants.{Begin, Commit, Find, Report, Abort}
use Rattle.session_reader.specs.FindLine.{find_of}
use Rattle.session_reader.specs.SelectBlock.{select_of}
use Rattle.session_reader.specs.SessionFile.{block_after, block_command, block_kind, block_reading, block_text, command_text, commands_of, common_block_kind, file_lines, header_lines, is_skipped, items_after, items_of, kind_of, kind_of_words, language_of, lines_of_block, next_after, with_command, with_item}
use Rattle.session_reader.specs.Laws.{AddedCommandsNeedHeader, HeaderKeepsCommands, is_added}
use Rattle.session_reader.proofs.Lengths.{split-cons}

-- a line that isn't known by a single word, given what it is then
abbrev by_words : List ℕ → LineKind → LineKind
by_words line kind = cond (is_skipped line) Skipped (cond (bytes_eq line (codes "begin")) BeginCommand (cond (bytes_eq line (codes "commit")) CommitCommand (cond (bytes_eq line (codes "report")) ReportCommand (cond (bytes_eq line (codes "abort")) AbortCommand kind))))

-- a line of the first language is no command of it, or the same in the second
attach_kept : (line : List ℕ) → (kind_of One line ≡ Other) ⊎ (by_words line (kind_of_words (block_kind Two line) (find_of line)) ≡ kind_of One line)
attach_kept line = elim (bytes_eq line (codes "attach ntriples"))
    as (λ b. bytes_eq line (codes "attach ntriples") ≡ b → (kind_of One line ≡ Other) ⊎ (by_words line (kind_of_words (cond b (Some blocks.Attach) (common_block_kind line)) (find_of line)) ≡ kind_of One line)) [
      | true ↦ λ e. inl (ap (kind_of One) ((bytes_eq-Decides line (codes "attach ntriples")).0 e))
      | false ↦ λ e. inr refl
    ] refl

kind_kept : (line : List ℕ) → (kind_of One line ≡ Other) ⊎ (kind_of Two line ≡ kind_of One line)
kind_kept line = elim (bytes_eq line (codes "select"))
    as (λ b. bytes_eq line (codes "select") ≡ b → (kind_of One line ≡ Other) ⊎ (by_words line (cond b SelectBlock (kind_of_words (block_kind Two line) (find_of line))) ≡ kind_of One line)) [
      | true ↦ λ e. inl (ap (kind_of One) ((bytes_eq-Decides line (codes "select")).0 e))
      | false ↦ λ e. attach_kept line
    ] refl

command_kept : (c : ReadCommand) (r t : Result (List ReadCommand) ℕ) (all : List ReadCommand) → ((cs : List ReadCommand) → r ≡ Ok cs → t ≡ Ok cs) → with_command c r ≡ Ok all → with_command c t ≡ Ok all
command_kept c (Ok cs) t all rest h = ap (with_command c) (rest cs refl) ∙ h
command_kept c (Err n) t all rest h = cc

item_kept : (s first n m : ℕ) (k : LineKind) (block : Option (List (List ℕ))) (more then_more : ℕ → Result (List ReadCommand) ℕ) (all : List ReadCommand)
    → ((next : ℕ) (cs : List ReadCommand) → more next ≡ Ok cs → then_more next ≡ Ok cs) → with_item s first n k block more ≡ Ok all → with_item s first m k block then_more ≡ Ok all
item_kept s first n m Skipped block more then_more all rest h = rest first all h
item_kept s first n m BeginCommand block more then_more all rest h = command_kept Begin (more first) (then_more first) all (rest first) h
item_kept s first n m CommitCommand block more then_more all rest h = command_kept Commit (more first) (then_more first) all (rest first) h
item_kept s first n m ReportCommand block more then_more all rest h = command_kept Report (more first) (then_more first) all (rest first) h
item_kept s first n m AbortCommand block more then_more all rest h = command_kept Abort (more first) (then_more first) all (rest first) h
item_kept s first n m (FindCommand p) block more then_more all rest h = command_kept (Find p) (more first) (then_more first) all (rest first) h
item_kept s first n m (Block k) (Some lines) more then_more all rest h =
    let reading = block_reading k (block_text lines) s first in
    command_kept (block_command k reading) (more (next_after first reading)) (then_more (next_after first reading)) all (rest (next_after first reading)) h
item_kept s first n m (Block k) None more then_more all rest h = cc
item_kept s first n m SelectBlock (Some lines) more then_more all rest h = command_kept (select_of lines) (more first) (then_more first) all (rest first) h
item_kept s first n m SelectBlock None more then_more all rest h = cc
item_kept s first n m Other block more then_more all rest h = cc

-- the commands behind an item of this kind
abbrev behind : Language → ℕ → LineKind → ℕ → List (List ℕ) → ℕ → Result (List ReadCommand) ℕ
behind language s kind n lines next = commands_of s next (items_after language (lines_of_block (block_after kind lines)) (n + 1) lines)

-- the commands from an item on, by its kind
abbrev by_kind : Language → ℕ → ℕ → ℕ → LineKind → List (List ℕ) → Result (List ReadCommand) ℕ
by_kind language s first n kind lines = with_item s first n kind (block_after kind lines) (behind language s kind n lines)

item_by_kind : (s first n m : ℕ) (text : List ℕ) (lines : List (List ℕ)) (all : List ReadCommand) → (kind_of One text ≡ Other) ⊎ (kind_of Two text ≡ kind_of One text)
    → ((k : LineKind) (next : ℕ) (cs : List ReadCommand) → behind One s k n lines next ≡ Ok cs → behind Two s k m lines next ≡ Ok cs) → by_kind One s first n (kind_of One text) lines ≡ Ok all → by_kind Two s first m (kind_of Two text) lines ≡ Ok all
item_by_kind s first n m text lines all (inl none) rest h = let no : by_kind One s first n Other lines ≡ Ok all = ap (λ (k : LineKind). by_kind One s first n k lines) (sym none) ∙ h in cc
item_by_kind s first n m text lines all (inr same) rest h =
    let kind = kind_of One text in
    ap (λ (k : LineKind). by_kind Two s first m k lines) same ∙ item_kept s first n m kind (block_after kind lines) (behind One s kind n lines) (behind Two s kind m lines) all (rest kind) h

-- wherever the lines stand, and however many of them belong to an item before
items_kept : (s first skip n m : ℕ) (lines : List (List ℕ)) (all : List ReadCommand) → commands_of s first (items_after One skip n lines) ≡ Ok all → commands_of s first (items_after Two skip m lines) ≡ Ok all
items_kept s first skip n m [] all h = h
items_kept s first (suc skip) n m (line ∷ lines) all h = items_kept s first skip (n + 1) (m + 1) lines all h
items_kept s first zero n m (line ∷ lines) all h =
    item_by_kind s first n m (command_text line lines) lines all (kind_kept (command_text line lines)) (λ k next cs e. items_kept s next (lines_of_block (block_after k lines)) (n + 1) (m + 1) lines cs e) h

-- a file without a header
without_header : (s first : ℕ) (lines : List (List ℕ)) (r : Result (List ReadCommand) ℕ) → language_of lines ≡ One → commands_of s first (items_of lines) ≡ r → commands_of s first (items_after One 0 1 lines) ≡ r
without_header s first lines r is h = ap (λ (l : Language). commands_of s first (items_after l (header_lines l) 1 lines)) (sym is) ∙ h

-- a header with lines behind it
behind_header : (line : List ℕ) (rest lines : List (List ℕ)) → lines ≡ line ∷ rest → language_of (codes "%session 2" ∷ lines) ≡ Two
behind_header line rest lines e = ap (λ ls. language_of (codes "%session 2" ∷ ls)) e

pub header_keeps : HeaderKeepsCommands
header_keeps s first bytes read h =
    let lines = file_lines bytes in
    let parts = split-cons (λ c. c == 10) bytes in
    let two : commands_of s first (items_after Two 0 2 lines) ≡ Ok read = items_kept s first 0 1 2 lines read (without_header s first lines (Ok read) h.0 h.1) in
    ap (λ (l : Language). commands_of s first (items_after l (header_lines l) 1 (codes "%session 2" ∷ lines))) (behind_header parts.0 parts.1 lines parts.2) ∙ two

-- No line of the first language begins an attachment or a select.

abbrev begins_added : LineKind → Bool
begins_added (Block blocks.Attach) = true
begins_added SelectBlock = true
begins_added _ = false

words_never : (a b c d e : Bool) (p : Option Pattern)
    → begins_added (kind_of_words (cond a (Some (blocks.Add NTriples)) (cond b (Some (blocks.Add Turtle)) (cond c (Some blocks.Remove) (cond d (Some (blocks.Shapes NTriples)) (cond e (Some (blocks.Shapes Turtle)) None))))) p) ≡ false
words_never true b c d e p = refl
words_never false true c d e p = refl
words_never false false true d e p = refl
words_never false false false true e p = refl
words_never false false false false true p = refl
words_never false false false false false (Some p) = refl
words_never false false false false false None = refl

others_never : (a b c r d : Bool) (k : LineKind) → begins_added k ≡ false → begins_added (cond a Skipped (cond b BeginCommand (cond c CommitCommand (cond r ReportCommand (cond d AbortCommand k))))) ≡ false
others_never true b c r d k h = refl
others_never false true c r d k h = refl
others_never false false true r d k h = refl
others_never false false false true d k h = refl
others_never false false false false true k h = refl
others_never false false false false false k h = h

line_never : (line : List ℕ) → begins_added (kind_of One line) ≡ false
line_never line = others_never (is_skipped line) (bytes_eq line (codes "begin")) (bytes_eq line (codes "commit")) (bytes_eq line (codes "report")) (bytes_eq line (codes "abort")) (kind_of_words (common_block_kind line) (find_of line))
    (words_never (bytes_eq line (codes "add ntriples")) (bytes_eq line (codes "add turtle")) (bytes_eq line (codes "remove ntriples")) (bytes_eq line (codes "shapes ntriples")) (bytes_eq line (codes "shapes turtle")) (find_of line))

abbrev NoneAdded : List ReadCommand → Type 0
NoneAdded read = AllByRecursion (λ c. is_added c ≡ false) read

block_never : (k : BlockKind) (reading : Result (List Triple × ℕ) (ℕ × RefusalKind)) → begins_added (Block k) ≡ false → is_added (block_command k reading) ≡ false
block_never (blocks.Add syntax) (Ok r) h = refl
block_never (blocks.Add syntax) (Err e) h = refl
block_never blocks.Remove (Ok r) h = refl
block_never blocks.Remove (Err e) h = refl
block_never blocks.Attach reading h = cc
block_never (blocks.Shapes syntax) (Ok r) h = refl
block_never (blocks.Shapes syntax) (Err e) h = refl

command_never : (c : ReadCommand) (r : Result (List ReadCommand) ℕ) (all : List ReadCommand) → is_added c ≡ false → ((cs : List ReadCommand) → r ≡ Ok cs → NoneAdded cs) → with_command c r ≡ Ok all → NoneAdded all
command_never c (Ok cs) all one rest h =
    let is : c ∷ cs ≡ all = cc in
    subst NoneAdded is (one, rest cs refl)
command_never c (Err n) all one rest h = cc

item_never : (s first n : ℕ) (k : LineKind) (block : Option (List (List ℕ))) (more : ℕ → Result (List ReadCommand) ℕ) (all : List ReadCommand) → begins_added k ≡ false
    → ((next : ℕ) (cs : List ReadCommand) → more next ≡ Ok cs → NoneAdded cs) → with_item s first n k block more ≡ Ok all → NoneAdded all
item_never s first n Skipped block more all one rest h = rest first all h
item_never s first n BeginCommand block more all one rest h = command_never Begin (more first) all refl (rest first) h
item_never s first n CommitCommand block more all one rest h = command_never Commit (more first) all refl (rest first) h
item_never s first n ReportCommand block more all one rest h = command_never Report (more first) all refl (rest first) h
item_never s first n AbortCommand block more all one rest h = command_never Abort (more first) all refl (rest first) h
item_never s first n (FindCommand p) block more all one rest h = command_never (Find p) (more first) all refl (rest first) h
item_never s first n (Block k) (Some lines) more all one rest h =
    let reading = block_reading k (block_text lines) s first in
    command_never (block_command k reading) (more (next_after first reading)) all (block_never k reading one) (rest (next_after first reading)) h
item_never s first n (Block k) None more all one rest h = cc
item_never s first n SelectBlock block more all one rest h = cc
item_never s first n Other block more all one rest h = cc

items_never : (s first skip n : ℕ) (lines : List (List ℕ)) (all : List ReadCommand) → commands_of s first (items_after One skip n lines) ≡ Ok all → NoneAdded all
items_never s first skip n [] all h = let is : [] ≡ all = cc in subst NoneAdded is tt
items_never s first (suc skip) n (line ∷ lines) all h = items_never s first skip (n + 1) lines all h
items_never s first zero n (line ∷ lines) all h =
    let kind = kind_of One (command_text line lines) in
    item_never s first n kind (block_after kind lines) (behind One s kind n lines) all (line_never (command_text line lines)) (λ next cs e. items_never s next (lines_of_block (block_after kind lines)) (n + 1) lines cs e) h

pub need_header : AddedCommandsNeedHeader
need_header s first bytes read h = items_never s first 0 1 (file_lines bytes) read (without_header s first (file_lines bytes) (Ok read) h.0 h.1)
