-- Commands none of which is of a shapes graph: they are checked alike whatever was refused, and no pattern of theirs is.
use Rattle.std.proofs.Common.{◌≡◌, ◌∙◌, Bool, true, false, ◌||◌, List, [], ◌∷◌, refl}
use Rattle.std.specs.List.{list_any}
use Rattle.outside.specs.Faults.{Refusal}
use Rattle.session_model.specs.declared.command.Command.{Command}
use Rattle.session_model.specs.declared.command.Command.TheVariants as commands
use Rattle.session_reader.specs.declared.read_command.ReadCommand.{ReadCommand}
use Rattle.session_reader.specs.declared.read_command.ReadCommand.TheVariants.{Begin, Add, BadAdd, Remove, BadRemove, Attach, BadAttach, Shapes, BadShapes, Commit, Find, Select, BadSelect, Report, Abort}
use Rattle.session_reader.specs.Checking.{AreChecked, IsChecked}
use Rattle.session_reader.specs.LineCheck.{is_of_shapes}

-- what such a command becomes; one of shapes becomes none of these
abbrev same_command : ReadCommand → Command
same_command Begin = commands.Begin
same_command (Add ts) = commands.Add ts
same_command (BadAdd n kind) = commands.BadAdd n kind
same_command (Remove ts) = commands.Remove ts
same_command (BadRemove n kind) = commands.BadRemove n kind
same_command (Attach ts) = commands.Attach ts
same_command (BadAttach n kind) = commands.BadAttach n kind
same_command (Shapes ts) = commands.Begin
same_command (BadShapes n kind) = commands.Begin
same_command Commit = commands.Commit
same_command (Find pattern) = commands.Find pattern
same_command (Select ps) = commands.Select ps
same_command (BadSelect n) = commands.BadSelect n
same_command Report = commands.Report
same_command Abort = commands.Abort

-- it is the same whatever was refused
abbrev Alike : ReadCommand → Command → Type 0
Alike r c = (refused : List Refusal) → IsChecked r c refused refused

alike : (r : ReadCommand) → is_of_shapes r ≡ false → Alike r (same_command r)
alike Begin unshaped refused = (refl, refl)
alike (Add ts) unshaped refused = (refl, refl)
alike (BadAdd n kind) unshaped refused = (refl, refl)
alike (Remove ts) unshaped refused = (refl, refl)
alike (BadRemove n kind) unshaped refused = (refl, refl)
alike (Attach ts) unshaped refused = (refl, refl)
alike (BadAttach n kind) unshaped refused = (refl, refl)
alike (Shapes ts) unshaped refused = let never : ⊥ = cc in absurd never
alike (BadShapes n kind) unshaped refused = let never : ⊥ = cc in absurd never
alike Commit unshaped refused = (refl, refl)
alike (Find pattern) unshaped refused = (refl, refl)
alike (Select ps) unshaped refused = (refl, refl)
alike (BadSelect n) unshaped refused = (refl, refl)
alike Report unshaped refused = (refl, refl)
alike Abort unshaped refused = (refl, refl)

abbrev Kept : ReadCommand → Command → List Refusal → List Refusal → Type 0
Kept r c old new = (new ≡ old) × Alike r c

kept : (r : ReadCommand) (c : Command) (old new : List Refusal) → is_of_shapes r ≡ false → IsChecked r c old new → Kept r c old new
kept Begin c old new unshaped h = (h.1, λ refused. (h.0, refl))
kept (Add ts) c old new unshaped h = (h.1, λ refused. (h.0, refl))
kept (BadAdd n kind) c old new unshaped h = (h.1, λ refused. (h.0, refl))
kept (Remove ts) c old new unshaped h = (h.1, λ refused. (h.0, refl))
kept (BadRemove n kind) c old new unshaped h = (h.1, λ refused. (h.0, refl))
kept (Attach ts) c old new unshaped h = (h.1, λ refused. (h.0, refl))
kept (BadAttach n kind) c old new unshaped h = (h.1, λ refused. (h.0, refl))
kept (Shapes ts) c old new unshaped h = let never : ⊥ = cc in absurd never
kept (BadShapes n kind) c old new unshaped h = let never : ⊥ = cc in absurd never
kept Commit c old new unshaped h = (h.1, λ refused. (h.0, refl))
kept (Find pattern) c old new unshaped h = (h.1, λ refused. (h.0, refl))
kept (Select ps) c old new unshaped h = (h.1, λ refused. (h.0, refl))
kept (BadSelect n) c old new unshaped h = (h.1, λ refused. (h.0, refl))
kept Report c old new unshaped h = (h.1, λ refused. (h.0, refl))
kept Abort c old new unshaped h = (h.1, λ refused. (h.0, refl))

neither : (a b : Bool) → (a || b) ≡ false → (a ≡ false) × (b ≡ false)
neither true b h = let never : ⊥ = cc in absurd never
neither false b h = (refl, h)

-- they become some commands
pub some_checked : (rs : List ReadCommand) → list_any is_of_shapes rs ≡ false → (cs : List Command) × ((refused : List Refusal) → AreChecked rs cs refused refused)
some_checked [] unshaped = ([], λ refused. refl)
some_checked (r ∷ rs) unshaped =
    let n = neither (is_of_shapes r) (list_any is_of_shapes rs) unshaped in
    let more = some_checked rs n.1 in
    (same_command r ∷ more.0, λ refused. (refused, alike r n.0 refused, more.1 refused))

-- no pattern was refused, and whatever had been, they are checked alike
pub checked_alike : (rs : List ReadCommand) (cs : List Command) (old new : List Refusal) → list_any is_of_shapes rs ≡ false → AreChecked rs cs old new → (new ≡ old) × ((refused : List Refusal) → AreChecked rs cs refused refused)
checked_alike [] [] old new unshaped h = (h, λ refused. refl)
checked_alike [] (c ∷ cs) old new unshaped h = absurd h
checked_alike (r ∷ rs) [] old new unshaped h = absurd h
checked_alike (r ∷ rs) (c ∷ cs) old new unshaped h =
    let n = neither (is_of_shapes r) (list_any is_of_shapes rs) unshaped in
    let one = kept r c old h.0 n.0 h.1 in
    let more = checked_alike rs cs h.0 new n.1 h.2 in
    (more.0 ∙ one.0, λ refused. (refused, one.1 refused, more.1 refused))
