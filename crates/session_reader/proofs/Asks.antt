-- What the maker is asked for, one read command after another.
use Rattle.std.proofs.Common.{◌≡◌, List, [], ◌∷◌, ◌++◌, Result, Ok, Err, ℕ, refl, sym, subst, inl, inr}
use Rattle.outside.specs.Faults.{Refusal, Request}
use Rattle.shape_reader.proofs.Requests.{asks_nothing}
use Rattle.session_model.specs.declared.command.Command.{Command}
use Rattle.session_reader.specs.declared.read_command.ReadCommand.{ReadCommand}
use Rattle.session_reader.specs.declared.read_command.ReadCommand.TheVariants.{Begin, Add, BadAdd, Remove, BadRemove, Attach, BadAttach, Shapes, BadShapes, Commit, Find, Select, BadSelect, Report, Abort}
use Rattle.session_reader.specs.declared.prepare_fault.PrepareFault.{PrepareFault}
use Rattle.session_reader.specs.declared.prepare_fault.PrepareFault.TheVariants.{Line, Memory}
use Rattle.session_reader.specs.Asked.{AsksFirst, AsksFirstOf, AsksInVain, AsksOf, AsksOfEach, AsksPart}
use Rattle.session_reader.specs.Checking.{AreChecked}
use Rattle.session_reader.specs.SessionFile.{session_of}

part_none : (r : ReadCommand) (xs : List Request) → AsksPart r xs xs
part_none Begin xs = refl
part_none (Add ts) xs = refl
part_none (BadAdd n kind) xs = refl
part_none (Remove ts) xs = refl
part_none (BadRemove n kind) xs = refl
part_none (Attach ts) xs = refl
part_none (BadAttach n kind) xs = refl
part_none (Shapes ts) xs = asks_nothing ts xs
part_none (BadShapes n kind) xs = refl
part_none Commit xs = refl
part_none (Find pattern) xs = refl
part_none (Select ps) xs = refl
part_none (BadSelect n) xs = refl
part_none Report xs = refl
part_none Abort xs = refl

first_none : (rs : List ReadCommand) (refused : List Refusal) (xs : List Request) → AsksFirst rs refused refused xs xs
first_none [] refused xs = (refl, refl)
first_none (r ∷ rs) refused xs = inl (refl, part_none r xs)

first_of_none : (read : Result (List ReadCommand) ℕ) (refused : List Refusal) (xs : List Request) → AsksFirstOf read refused refused xs xs
first_of_none (Ok rs) refused xs = first_none rs refused xs
first_of_none (Err n) refused xs = (refl, refl)

pub each_push : (rs : List ReadCommand) (cs : List Command) (r : ReadCommand) (c : Command) (old mid new : List Request) → AsksOfEach rs cs old mid → AsksOf r c mid new → AsksOfEach (rs ++ r ∷ []) (cs ++ c ∷ []) old new
each_push [] [] r c old mid new all one = (new, subst (λ (xs : List Request). AsksOf r c xs new) all one, refl)
each_push [] (d ∷ ds) r c old mid new all one = absurd all
each_push (q ∷ qs) [] r c old mid new all one = absurd all
each_push (q ∷ qs) (d ∷ ds) r c old mid new all one = (all.0, all.1, each_push qs ds r c all.0 mid new all.2 one)

-- in the middle of the next command
pub stopped_in : (rs : List ReadCommand) (cs : List Command) (r : ReadCommand) (rest : List ReadCommand) (refused between after : List Refusal) (old mid new : List Request)
    → AreChecked rs cs refused between → AsksOfEach rs cs old mid → after ≡ between → AsksPart r mid new → AsksFirst (rs ++ r ∷ rest) refused after old new
stopped_in [] [] r rest refused between after old mid new checked asked same part =
    inl (subst (λ (xs : List Refusal). after ≡ xs) checked same, subst (λ (xs : List Request). AsksPart r xs new) asked part)
stopped_in [] (d ∷ ds) r rest refused between after old mid new checked asked same part = absurd checked
stopped_in (q ∷ qs) [] r rest refused between after old mid new checked asked same part = absurd checked
stopped_in (q ∷ qs) (d ∷ ds) r rest refused between after old mid new checked asked same part =
    inr (d, checked.0, asked.0, checked.1, asked.1, stopped_in qs ds r rest checked.0 between after asked.0 mid new checked.2 asked.2 same part)

-- after some commands
pub stopped_after : (rs : List ReadCommand) (cs : List Command) (rest : List ReadCommand) (refused after : List Refusal) (old new : List Request)
    → AreChecked rs cs refused after → AsksOfEach rs cs old new → AsksFirst (rs ++ rest) refused after old new
stopped_after [] [] rest refused after old new checked asked =
    subst (λ (xs : List Refusal). AsksFirst rest refused xs old new) (sym checked) (subst (λ (ys : List Request). AsksFirst rest refused refused old ys) (sym asked) (first_none rest refused old))
stopped_after [] (d ∷ ds) rest refused after old new checked asked = absurd checked
stopped_after (q ∷ qs) [] rest refused after old new checked asked = absurd checked
stopped_after (q ∷ qs) (d ∷ ds) rest refused after old new checked asked =
    inr (d, checked.0, asked.0, checked.1, asked.1, stopped_after qs ds rest checked.0 after asked.0 new checked.2 asked.2)

-- where no session is prepared: before anything is asked, and in the middle
pub vain_none : (s first : ℕ) (bytes : List ℕ) (fault : PrepareFault) (refused : List Refusal) (xs : List Request) → AsksInVain s first bytes fault refused refused xs xs
vain_none s first bytes (Line n) refused xs = refl
vain_none s first bytes Memory refused xs = first_of_none (session_of s first bytes) refused xs

pub vain_first : (s first : ℕ) (bytes : List ℕ) (read : List ReadCommand) (refused after : List Refusal) (old new : List Request) → session_of s first bytes ≡ Ok read → AsksFirst read refused after old new → AsksInVain s first bytes Memory refused after old new
vain_first s first bytes read refused after old new e h = subst (λ (r : Result (List ReadCommand) ℕ). AsksFirstOf r refused after old new) (sym e) h
