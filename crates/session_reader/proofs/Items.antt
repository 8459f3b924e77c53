-- What one item does to the reading of a session file.
use Rattle.std.proofs.Common.{◌≡◌, ℕ, zero, suc, ◌+◌, ◌≤◌, List, [], ◌∷◌, ◌++◌, length, take, drop, Some, Ok, Err, Result, refl, sym, ap, ◌∙◌, subst, arith, append_assoc}
use Rattle.std.specs.Prelude.{IfOk}
use Rattle.std.specs.Option.{option_map}
use Rattle.session_reader.specs.declared.line.Language.{Language}
use Rattle.session_reader.specs.declared.line.Language.TheVariants.{One, Two}
use Rattle.session_reader.specs.declared.line.LineKind.{LineKind}
use Rattle.session_reader.specs.declared.line.LineKind.TheVariants.{SelectBlock}
use Rattle.session_reader.specs.declared.prepare_fault.PrepareFault.{PrepareFault}
use Rattle.session_reader.specs.declared.read_command.ReadCommand.{ReadCommand}
use Rattle.session_reader.specs.SessionFile.{kind_of, command_text, block_length, block_text, block_after, header_lines, lines_of_block, with_command, with_item, commands_of, items_after}
use Rattle.session_reader.specs.SelectBlock.{select_of}
use Rattle.session_reader.specs.Progress.{with_commands}
use Rattle.session_reader.specs.Faults.{Fails}
use Rattle.session_reader.proofs.Lengths.{rest_short}

-- one command more
pub with_commands-push : (cs : List ReadCommand) (c : ReadCommand) (r : Result (List ReadCommand) ℕ) → with_commands cs (with_command c r) ≡ with_commands (cs ++ c ∷ []) r
with_commands-push cs c (Ok ds) = ap Ok (sym (append_assoc cs (c ∷ []) ds))
with_commands-push cs c (Err n) = refl

-- the items behind so many lines of an item
pub items_behind : (language : Language) (taken n : ℕ) (texts : List (List ℕ)) → items_after language taken n texts ≡ items_after language 0 (n + taken) (drop taken texts)
items_behind language zero n texts = let same : n ≡ n + 0 = omega arith in ap (λ m. items_after language 0 m texts) same
items_behind language (suc taken) n [] = refl
items_behind language (suc taken) n (line ∷ texts) =
    let same : n + 1 + taken ≡ n + suc taken = omega arith in items_behind language taken (n + 1) texts ∙ ap (λ m. items_after language 0 m (drop taken texts)) same

-- before the first item, and behind the last
pub no_command : (r : Result (List ReadCommand) ℕ) → with_commands [] r ≡ r
no_command (Ok ds) = refl
no_command (Err n) = refl

abbrev pub from : Language → ℕ → ℕ → ℕ → List (List ℕ) → Result (List ReadCommand) ℕ
from language s next n texts = commands_of s next (items_after language 0 n texts)

-- behind the header, if there is one
pub behind_header : (language : Language) (s next taken : ℕ) (texts : List (List ℕ)) → from language s next (taken + 1) (drop taken texts) ≡ commands_of s next (items_after language taken 1 texts)
behind_header language s next taken texts =
    let same : 1 + taken ≡ taken + 1 = omega arith in
    sym (ap (commands_of s next) (items_behind language taken 1 texts) ∙ ap (λ n. from language s next n (drop taken texts)) same)

-- a header is a line at most
pub small_header : (language : Language) → header_lines language ≤ 1
small_header One = omega arith
small_header Two = omega arith

-- the commands behind an item of this kind, whose first line has the number n
abbrev pub behind : Language → ℕ → ℕ → LineKind → List (List ℕ) → ℕ → Result (List ReadCommand) ℕ
behind language s n kind texts next = commands_of s next (items_after language (lines_of_block (block_after kind texts)) (n + 1) texts)

-- the commands from an item of this kind on
abbrev pub from_item : Language → ℕ → ℕ → ℕ → LineKind → List (List ℕ) → Result (List ReadCommand) ℕ
from_item language s next n kind texts = with_item s next n kind (block_after kind texts) (behind language s n kind texts)

-- the item of a line that is there
first_item : (language : Language) (s next n : ℕ) (kind : LineKind) (line : List ℕ) (there texts : List (List ℕ)) → there ≡ line ∷ texts → kind ≡ kind_of language (command_text line texts)
    → from language s next n there ≡ from_item language s next n kind texts
first_item language s next n kind line there texts same is = ap (from language s next n) same ∙ ap (λ k. from_item language s next n k texts) (sym is)

-- behind an item
next_item : (language : Language) (s next n taken : ℕ) (kind : LineKind) (texts rest : List (List ℕ)) → taken ≡ lines_of_block (block_after kind texts) → rest ≡ drop taken texts
    → behind language s n kind texts next ≡ from language s next (n + (1 + taken)) rest
next_item language s next n taken kind texts rest is left =
    let number : n + 1 + taken ≡ n + (1 + taken) = omega arith in
    ap (λ k. commands_of s next (items_after language k (n + 1) texts)) (sym is)
    ∙ ap (commands_of s next) (items_behind language taken (n + 1) texts)
    ∙ ap (λ m. from language s next m (drop taken texts)) number
    ∙ ap (from language s next (n + (1 + taken))) (sym left)

module _ (language : Language) (s old n : ℕ) (kind : LineKind) (line : List ℕ) (there texts : List (List ℕ)) (cs : List ReadCommand) (whole : Result (List ReadCommand) ℕ)
    (same : there ≡ line ∷ texts) (is : kind ≡ kind_of language (command_text line texts)) (before : with_commands cs (from language s old n there) ≡ whole) where
  pub item_read : (new taken : ℕ) (rest : List (List ℕ)) (ds : List ReadCommand) → rest ≡ drop taken texts → taken ≡ lines_of_block (block_after kind texts)
      → with_commands cs (from_item language s old n kind texts) ≡ with_commands ds (behind language s n kind texts new) → with_commands ds (from language s new (n + (1 + taken)) rest) ≡ whole
  item_read new taken rest ds left size step =
      sym (ap (with_commands ds) (next_item language s new n taken kind texts rest size left)) ∙ sym step ∙ sym (ap (with_commands cs) (first_item language s old n kind line there texts same is)) ∙ before

  pub item_fails : (e : PrepareFault) → Fails e (with_commands cs (from_item language s old n kind texts)) → Fails e whole
  item_fails e h = subst (Fails e) (sym (ap (with_commands cs) (first_item language s old n kind line there texts same is)) ∙ before) h

-- an item of one line
pub single_rest : (r : Result ℕ PrepareFault) (texts : List (List ℕ)) → IfOk r (λ taken. taken ≡ 0) → IfOk r (λ taken. (texts ≡ drop taken texts) × (taken ≤ length texts))
single_rest (Ok taken) texts is = (ap (λ k. drop k texts) (sym is), omega (arith, is))
single_rest (Err e) texts h = tt

-- an item behind which some lines are left
pub rest_left : (r : Result ℕ PrepareFault) (next : ℕ) (old new : List (List ℕ)) → IfOk r (λ taken. (new ≡ drop taken old) × (taken ≤ length old)) → IfOk r (λ taken. (next ≤ next) × (next + length (block_text new) ≤ next + length (block_text old)))
rest_left (Ok taken) next old new (left, within) = (omega arith, omega (arith, ap (λ ls. length (block_text ls)) left, rest_short old taken))
rest_left (Err e) next old new h = tt

-- a select is read
pub select_read : (after lines : List (List ℕ)) (cs ds : List ReadCommand) (command : ReadCommand) (s next n taken : ℕ) (more : ℕ → Result (List ReadCommand) ℕ) → block_length after ≡ Some (length lines) → lines ≡ take (length lines) after → taken ≡ length lines + 1
    → command ≡ select_of lines → ds ≡ cs ++ command ∷ [] → (taken ≡ lines_of_block (block_after SelectBlock after)) × (with_commands cs (with_item s next n SelectBlock (block_after SelectBlock after) more) ≡ with_commands ds (more next))
select_read after lines cs ds command s next n taken more ends are size is pushed =
    let block : block_after SelectBlock after ≡ Some lines = ap (option_map (λ m. take m after)) ends ∙ ap (λ ls. Some ls) (sym are) in
    let count : taken ≡ suc (length lines) = omega (arith, size) in
    (count ∙ sym (ap lines_of_block block), ap (λ b. with_commands cs (with_item s next n SelectBlock b more)) block ∙ with_commands-push cs (select_of lines) (more next) ∙ sym (ap (λ ds. with_commands ds (more next)) (pushed ∙ ap (λ c. cs ++ c ∷ []) is)))
