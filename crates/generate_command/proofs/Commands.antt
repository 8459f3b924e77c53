-- Lines that are a session file from any line and blank node on.
use Rattle.std.proofs.Common.{◌≡◌, ℕ, suc, ◌+◌, false, cond, List, [], ◌∷◌, ◌++◌, length, take, Option, Some, Result, Ok, refl, sym, ap, ◌∙◌, subst, codes, append_assoc}
use Rattle.std.specs.Option.{option_map}
use Rattle.std.specs.List.{AllByRecursion, flat_map}
use Rattle.session_reader.specs.declared.line.BlockKind.{BlockKind}
use Rattle.session_reader.specs.declared.line.Language.TheVariants.{One}
use Rattle.session_reader.specs.declared.line.LineKind.{LineKind}
use Rattle.session_reader.specs.declared.line.LineKind.TheVariants.{BeginCommand, CommitCommand, Block}
use Rattle.session_reader.specs.declared.read_command.ReadCommand.{ReadCommand}
use Rattle.session_reader.specs.declared.read_command.ReadCommand.TheVariants.{Begin, Commit}
use Rattle.session_reader.specs.SessionFile.{kind_of, command_text, is_block_end, block_after, block_command, block_length, block_reading, block_text, commands_of, items_after, lines_of_block, next_after, with_command, with_item}
use Rattle.session_reader.specs.LineEnds.{without_cr}

-- some commands were read
abbrev pub IsRead : Result (List ReadCommand) ℕ → Type 0
IsRead r = (commands : List ReadCommand) × (r ≡ Ok commands)

abbrev pub AreCommands : List (List ℕ) → Type 0
AreCommands lines = (s first n : ℕ) → IsRead (commands_of s first (items_after One 0 n lines))

one_more : (c : ReadCommand) (r : Result (List ReadCommand) ℕ) → IsRead r → IsRead (with_command c r)
one_more c r h = (c ∷ h.0, ap (with_command c) h.1)

-- after the last LF
pub none_left : AreCommands ([] ∷ [])
none_left s first n = ([], refl)

-- an item by what its first line is
by_kind : (s first n : ℕ) (line : List ℕ) (rest : List (List ℕ)) (kind : LineKind) → kind_of One (command_text line rest) ≡ kind
    → commands_of s first (items_after One 0 n (line ∷ rest)) ≡ with_item s first n kind (block_after kind rest) (λ next. commands_of s next (items_after One (lines_of_block (block_after kind rest)) (n + 1) rest))
by_kind s first n line rest kind e = ap (λ (k : LineKind). with_item s first n k (block_after k rest) (λ next. commands_of s next (items_after One (lines_of_block (block_after k rest)) (n + 1) rest))) e

whole_line : (line : List ℕ) (rest : List (List ℕ)) → without_cr line ≡ line → command_text line rest ≡ line
whole_line line [] e = refl
whole_line line (next ∷ more) e = e

with_begin : (rest : List (List ℕ)) → AreCommands rest → AreCommands (codes "begin" ∷ rest)
with_begin rest h s first n =
    let kind : kind_of One (command_text (codes "begin") rest) ≡ BeginCommand = ap (kind_of One) (whole_line (codes "begin") rest refl) in
    subst IsRead (sym (by_kind s first n (codes "begin") rest BeginCommand kind)) (one_more Begin _ (h s first (n + 1)))

with_commit : (rest : List (List ℕ)) → AreCommands rest → AreCommands (codes "commit" ∷ rest)
with_commit rest h s first n =
    let kind : kind_of One (command_text (codes "commit") rest) ≡ CommitCommand = ap (kind_of One) (whole_line (codes "commit") rest refl) in
    subst IsRead (sym (by_kind s first n (codes "commit") rest CommitCommand kind)) (one_more Commit _ (h s first (n + 1)))

-- the lines of a block, none of which ends it
abbrev pub AreInside : List (List ℕ) → Type 0
AreInside body = AllByRecursion (λ line. is_block_end line ≡ false) body

length_of_block : (body rest : List (List ℕ)) → AreInside body → block_length (body ++ codes "%%" ∷ rest) ≡ Some (length body)
length_of_block [] rest h = refl
length_of_block (line ∷ body) rest h = ap (λ b. cond b (Some 0) (option_map suc (block_length (body ++ codes "%%" ∷ rest)))) h.0 ∙ ap (option_map suc) (length_of_block body rest h.1)

first_lines : (body more : List (List ℕ)) → take (length body) (body ++ more) ≡ body
first_lines [] more = refl
first_lines (line ∷ body) more = ap (λ ls. line ∷ ls) (first_lines body more)

behind : (body rest : List (List ℕ)) (last : List ℕ) (n : ℕ) → (m : ℕ) × (items_after One (suc (length body)) n (body ++ last ∷ rest) ≡ items_after One 0 m rest)
behind [] rest last n = (n + 1, refl)
behind (line ∷ body) rest last n = behind body rest last (n + 1)

block_of : (k : BlockKind) (body rest : List (List ℕ)) → AreInside body → block_after (Block k) (body ++ codes "%%" ∷ rest) ≡ Some body
block_of k body rest h = ap (option_map (λ n. take n (body ++ codes "%%" ∷ rest))) (length_of_block body rest h) ∙ ap Some (first_lines body (codes "%%" ∷ rest))

with_block : (line : List ℕ) (k : BlockKind) (body rest : List (List ℕ)) → without_cr line ≡ line → kind_of One line ≡ Block k → AreInside body → AreCommands rest → AreCommands (line ∷ (body ++ codes "%%" ∷ rest))
with_block line k body rest whole is inside h s first n =
    let lines = body ++ codes "%%" ∷ rest in
    let kind : kind_of One (command_text line lines) ≡ Block k = ap (kind_of One) (whole_line line lines whole) ∙ is in
    let reading = block_reading k (block_text body) s first in
    let b = behind body rest (codes "%%") (n + 1) in
    let left : IsRead (commands_of s (next_after first reading) (items_after One (suc (length body)) (n + 1) lines)) =
    subst (λ items. IsRead (commands_of s (next_after first reading) items)) (sym b.1) (h s (next_after first reading) b.0) in
    subst IsRead
    (sym (by_kind s first n line lines (Block k) kind ∙ ap (λ (o : Option (List (List ℕ))). with_item s first n (Block k) o (λ next. commands_of s next (items_after One (lines_of_block o) (n + 1) lines))) (block_of k body rest inside)))
    (one_more (block_command k reading) _ left)

-- a transaction that is one block
pub with_one_block : (line : List ℕ) (k : BlockKind) (body rest : List (List ℕ)) → without_cr line ≡ line → kind_of One line ≡ Block k → AreInside body → AreCommands rest → AreCommands (codes "begin" ∷ line ∷ (body ++ codes "%%" ∷ codes "commit" ∷ rest))
with_one_block line k body rest whole is inside h =
    with_begin (line ∷ (body ++ codes "%%" ∷ codes "commit" ∷ rest)) (with_block line k body (codes "commit" ∷ rest) whole is inside (with_commit rest h))

-- many pieces of lines
pub with_pieces : (f : ℕ → List (List ℕ)) → ((i : ℕ) (rest : List (List ℕ)) → AreCommands rest → AreCommands (f i ++ rest)) → (is : List ℕ) (rest : List (List ℕ)) → AreCommands rest → AreCommands (flat_map f is ++ rest)
with_pieces f g [] rest h = h
with_pieces f g (i ∷ is) rest h = subst AreCommands (sym (append_assoc (f i) (flat_map f is) rest)) (g i (flat_map f is ++ rest) (with_pieces f g is rest h))
