-- What the lines of a session file tell is what each reading of its blocks gives.
use Rattle.std.proofs.Common.{◌≡◌, ◌∙◌, ℕ, ◌+◌, Bool, true, false, ◌||◌, cond, List, [], ◌∷◌, drop, Option, Some, None, Result, Ok, Err, refl, sym, ap, subst, arith}
use Rattle.std.proofs.Math.Bool.{or_assoc}
use Rattle.std.specs.List.{list_any}
use Rattle.rdf_lexical.specs.declared.refusal.RefusalKind.{RefusalKind}
use Rattle.rdf_model.specs.declared.term.Term.{Term}
use Rattle.rdf_model.specs.declared.triple.Triple.{Triple}
use Rattle.bgp_query.specs.declared.pattern.JoinPattern.{JoinPattern}
use Rattle.session_reader.specs.declared.line.BlockKind.{BlockKind}
use Rattle.session_reader.specs.declared.line.BlockKind.TheVariants as blocks
use Rattle.session_reader.specs.declared.line.Language.{Language}
use Rattle.session_reader.specs.declared.line.LineKind.{LineKind}
use Rattle.session_reader.specs.declared.line.LineKind.TheVariants.{Skipped, BeginCommand, CommitCommand, ReportCommand, AbortCommand, FindCommand, Block, SelectBlock, Other}
use Rattle.session_reader.specs.declared.prepare_fault.PrepareFault.{PrepareFault}
use Rattle.session_reader.specs.declared.prepare_fault.PrepareFault.TheVariants.{Line}
use Rattle.session_reader.specs.declared.read_command.ReadCommand.{ReadCommand}
use Rattle.session_reader.specs.declared.read_command.ReadCommand.TheVariants.{Begin, Commit, Find, Report, Abort}
use Rattle.session_reader.specs.Faults.{Fails}
use Rattle.session_reader.specs.LineCheck.{HasCommands, HasNoCommands, any_shapes, first_bad, is_bad, is_of_shapes, is_shapes_block, is_shapes_line}
use Rattle.session_reader.specs.SelectBlock.{command_of, select_of}
use Rattle.session_reader.specs.SessionFile.{Item, block_after, block_command, block_reading, block_text, commands_of, command_text, file_lines, items_after, items_of, kind_of, lines_of_block, next_after, with_command, with_item}
use Rattle.session_reader.proofs.Items.{items_behind}

-- Commands that are read, and whether one of them is of a shapes graph.
abbrev Gives : Bool → Result (List ReadCommand) ℕ → Type 0
Gives shapes r = (read : List ReadCommand) × (r ≡ Ok read) × (list_any is_of_shapes read ≡ shapes)

-- one more command
gives_one : (c : ReadCommand) (own others : Bool) (r : Result (List ReadCommand) ℕ) → is_of_shapes c ≡ own → Gives others r → Gives (own || others) (with_command c r)
gives_one c own others r is g = (c ∷ g.0, ap (with_command c) g.1, ap (λ b. b || list_any is_of_shapes g.0) is ∙ ap (λ b. own || b) g.2)

block_shapes : (kind : BlockKind) (reading : Result (List Triple × ℕ) (ℕ × RefusalKind)) → is_of_shapes (block_command kind reading) ≡ is_shapes_block kind
block_shapes (blocks.Add syntax) (Ok r) = refl
block_shapes (blocks.Add syntax) (Err e) = refl
block_shapes blocks.Remove (Ok r) = refl
block_shapes blocks.Remove (Err e) = refl
block_shapes blocks.Attach (Ok r) = refl
block_shapes blocks.Attach (Err e) = refl
block_shapes (blocks.Shapes syntax) (Ok r) = refl
block_shapes (blocks.Shapes syntax) (Err e) = refl

patterns_shapes : (r : Result (List (JoinPattern Term)) ℕ) → is_of_shapes (command_of r) ≡ false
patterns_shapes (Ok ps) = refl
patterns_shapes (Err n) = refl

select_shapes : (lines : List (List ℕ)) → is_of_shapes (select_of lines) ≡ false
select_shapes [] = refl
select_shapes (line ∷ lines) = patterns_shapes _

-- An item that is a command or is skipped, before others that are commands.
gives_item : (s first n : ℕ) (kind : LineKind) (block : Option (List (List ℕ))) (others : Bool) (more : ℕ → Result (List ReadCommand) ℕ) → is_bad kind block ≡ false → ((next : ℕ) → Gives others (more next))
    → Gives (is_shapes_line kind || others) (with_item s first n kind block more)
gives_item s first n Skipped block others more good g = g first
gives_item s first n BeginCommand block others more good g = gives_one Begin false others (more first) refl (g first)
gives_item s first n CommitCommand block others more good g = gives_one Commit false others (more first) refl (g first)
gives_item s first n ReportCommand block others more good g = gives_one Report false others (more first) refl (g first)
gives_item s first n AbortCommand block others more good g = gives_one Abort false others (more first) refl (g first)
gives_item s first n (FindCommand pattern) block others more good g = gives_one (Find pattern) false others (more first) refl (g first)
gives_item s first n (Block k) (Some lines) others more good g =
    let reading = block_reading k (block_text lines) s first in
    gives_one (block_command k reading) (is_shapes_block k) others (more (next_after first reading)) (block_shapes k reading) (g (next_after first reading))
gives_item s first n (Block k) None others more good g = let never : ⊥ = cc in absurd never
gives_item s first n SelectBlock (Some lines) others more good g = gives_one (select_of lines) false others (more first) (select_shapes lines) (g first)
gives_item s first n SelectBlock None others more good g = let never : ⊥ = cc in absurd never
gives_item s first n Other block others more good g = let never : ⊥ = cc in absurd never

-- One before others of which one is no command, and one that is none itself.
passes_fault : (s first n m : ℕ) (kind : LineKind) (block : Option (List (List ℕ))) (more : ℕ → Result (List ReadCommand) ℕ) → is_bad kind block ≡ false → ((next : ℕ) → more next ≡ Err m) → with_item s first n kind block more ≡ Err m
passes_fault s first n m Skipped block more good e = e first
passes_fault s first n m BeginCommand block more good e = ap (with_command Begin) (e first)
passes_fault s first n m CommitCommand block more good e = ap (with_command Commit) (e first)
passes_fault s first n m ReportCommand block more good e = ap (with_command Report) (e first)
passes_fault s first n m AbortCommand block more good e = ap (with_command Abort) (e first)
passes_fault s first n m (FindCommand pattern) block more good e = ap (with_command (Find pattern)) (e first)
passes_fault s first n m (Block k) (Some lines) more good e =
    let reading = block_reading k (block_text lines) s first in ap (with_command (block_command k reading)) (e (next_after first reading))
passes_fault s first n m (Block k) None more good e = cc
passes_fault s first n m SelectBlock (Some lines) more good e = ap (with_command (select_of lines)) (e first)
passes_fault s first n m SelectBlock None more good e = cc
passes_fault s first n m Other block more good e = cc

item_is_bad : (s first n : ℕ) (kind : LineKind) (block : Option (List (List ℕ))) (more : ℕ → Result (List ReadCommand) ℕ) → is_bad kind block ≡ true → with_item s first n kind block more ≡ Err n
item_is_bad s first n Skipped block more bad = cc
item_is_bad s first n BeginCommand block more bad = cc
item_is_bad s first n CommitCommand block more bad = cc
item_is_bad s first n ReportCommand block more bad = cc
item_is_bad s first n AbortCommand block more bad = cc
item_is_bad s first n (FindCommand pattern) block more bad = cc
item_is_bad s first n (Block k) (Some lines) more bad = cc
item_is_bad s first n (Block k) None more bad = refl
item_is_bad s first n SelectBlock (Some lines) more bad = cc
item_is_bad s first n SelectBlock None more bad = refl
item_is_bad s first n Other block more bad = refl

-- where no item is bad they are commands, and else the first bad one is told
items_give : (items : List Item) → first_bad items ≡ None → (s first : ℕ) → Gives (any_shapes items) (commands_of s first items)
items_give [] none s first = ([], refl, refl)
items_give (item ∷ items) none s first = elim (is_bad item.kind item.block) as (λ b. is_bad item.kind item.block ≡ b → cond b (Some item.number) (first_bad items) ≡ None → Gives (any_shapes (item ∷ items)) (commands_of s first (item ∷ items))) [
  | true ↦ λ e f. let never : ⊥ = cc in absurd never
  | false ↦ λ e f. gives_item s first item.number item.kind item.block (any_shapes items) (λ next. commands_of s next items) e (λ next. items_give items f s next)
] refl none

items_fail : (items : List Item) (n : ℕ) → first_bad items ≡ Some n → (s first : ℕ) → commands_of s first items ≡ Err n
items_fail [] n some s first = cc
items_fail (item ∷ items) n some s first = elim (is_bad item.kind item.block) as (λ b. is_bad item.kind item.block ≡ b → cond b (Some item.number) (first_bad items) ≡ Some n → commands_of s first (item ∷ items) ≡ Err n) [
  | true ↦ λ e f. let here : item.number ≡ n = cc in item_is_bad s first item.number item.kind item.block (λ next. commands_of s next items) e ∙ ap Err here
  | false ↦ λ e f. passes_fault s first item.number n item.kind item.block (λ next. commands_of s next items) e (λ next. items_fail items n f s next)
] refl some

-- the items behind the header, if there is one
pub items_behind_header : (language : Language) (taken : ℕ) (texts : List (List ℕ)) → items_after language 0 (taken + 1) (drop taken texts) ≡ items_after language taken 1 texts
items_behind_header language taken texts =
    let same : 1 + taken ≡ taken + 1 = omega arith in
    sym (items_behind language taken 1 texts ∙ ap (λ n. items_after language 0 n (drop taken texts)) same)

-- the item of a line that is there, and the items behind it
abbrev pub one_item : ℕ → LineKind → List (List ℕ) → Item
one_item n kind texts = record { number = n; kind = kind; block = block_after kind texts }

first_is : (language : Language) (n : ℕ) (kind : LineKind) (line : List ℕ) (there texts : List (List ℕ)) → there ≡ line ∷ texts → kind ≡ kind_of language (command_text line texts)
    → items_after language 0 n there ≡ one_item n kind texts ∷ items_after language (lines_of_block (block_after kind texts)) (n + 1) texts
first_is language n kind line there texts same is =
    ap (items_after language 0 n) same ∙ ap (λ (k : LineKind). one_item n k texts ∷ items_after language (lines_of_block (block_after k texts)) (n + 1) texts) (sym is)

next_are : (language : Language) (n taken : ℕ) (kind : LineKind) (texts rest : List (List ℕ)) → taken ≡ lines_of_block (block_after kind texts) → rest ≡ drop taken texts
    → items_after language (lines_of_block (block_after kind texts)) (n + 1) texts ≡ items_after language 0 (n + (1 + taken)) rest
next_are language n taken kind texts rest is left =
    let number : n + 1 + taken ≡ n + (1 + taken) = omega arith in
    ap (λ k. items_after language k (n + 1) texts) (sym is)
    ∙ items_behind language taken (n + 1) texts
    ∙ ap (λ m. items_after language 0 m (drop taken texts)) number
    ∙ ap (items_after language 0 (n + (1 + taken))) (sym left)

module _ (language : Language) (n : ℕ) (kind : LineKind) (line : List ℕ) (there texts : List (List ℕ)) (all : List Item) (same : there ≡ line ∷ texts) (is : kind ≡ kind_of language (command_text line texts)) where
  module _ (taken : ℕ) (rest : List (List ℕ)) (size : taken ≡ lines_of_block (block_after kind texts)) (left : rest ≡ drop taken texts) where
    both : items_after language 0 n there ≡ one_item n kind texts ∷ items_after language 0 (n + (1 + taken)) rest
    both = first_is language n kind line there texts same is ∙ ap (λ (items : List Item). one_item n kind texts ∷ items) (next_are language n taken kind texts rest size left)

    -- a good item is behind
    pub good_behind : is_bad kind (block_after kind texts) ≡ false → first_bad (items_after language 0 n there) ≡ first_bad all → first_bad (items_after language 0 (n + (1 + taken)) rest) ≡ first_bad all
    good_behind good before = sym (ap (λ b. cond b (Some n) (first_bad (items_after language 0 (n + (1 + taken)) rest))) good) ∙ sym (ap first_bad both) ∙ before

    pub shapes_behind : (old new own : Bool) → own ≡ is_shapes_line kind → new ≡ (old || own) → (old || any_shapes (items_after language 0 n there)) ≡ any_shapes all → (new || any_shapes (items_after language 0 (n + (1 + taken)) rest)) ≡ any_shapes all
    shapes_behind old new own told joined before =
        ap (λ b. b || any_shapes (items_after language 0 (n + (1 + taken)) rest)) joined
        ∙ or_assoc old own (any_shapes (items_after language 0 (n + (1 + taken)) rest))
        ∙ ap (λ b. old || (b || any_shapes (items_after language 0 (n + (1 + taken)) rest))) told
        ∙ sym (ap (λ items. old || any_shapes items) both) ∙ before

  -- a bad one is the first
  pub bad_here : is_bad kind (block_after kind texts) ≡ true → first_bad (items_after language 0 n there) ≡ first_bad all → first_bad all ≡ Some n
  bad_here bad before =
      sym before ∙ ap first_bad (first_is language n kind line there texts same is)
      ∙ ap (λ b. cond b (Some n) (first_bad (items_after language (lines_of_block (block_after kind texts)) (n + 1) texts))) bad

-- what the lines of a file tell
pub are_commands : (bytes : List ℕ) (shapes : Bool) → None ≡ first_bad (items_of (file_lines bytes)) → shapes ≡ any_shapes (items_of (file_lines bytes)) → HasCommands shapes bytes
are_commands bytes shapes none told s first = let g = items_give (items_of (file_lines bytes)) (sym none) s first in (g.0, g.1, g.2 ∙ sym told)

pub are_none : (bytes : List ℕ) (n : ℕ) (fault : PrepareFault) → fault ≡ Line n → first_bad (items_of (file_lines bytes)) ≡ Some n → HasNoCommands fault bytes
are_none bytes n fault is bad s first = subst (λ (f : PrepareFault). Fails f (commands_of s first (items_of (file_lines bytes)))) (sym is) (items_fail (items_of (file_lines bytes)) n bad s first)
