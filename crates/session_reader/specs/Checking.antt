-- What becomes of the read commands of a session file once their shapes graphs are judged and their patterns are made.
use Rattle.std.specs.Prelude.{◌≡◌, ◌⊎◌, List, [], ◌∷◌, ◌++◌}
use Rattle.rdf_model.specs.declared.term.Term.{Term}
use Rattle.rdf_model.specs.declared.triple.Triple.{Triple}
use Rattle.outside.specs.Faults.{Refusal}
use Rattle.shape_rules.specs.declared.rule_row.RuleRow.{RuleRow}
use Rattle.shape_rules.specs.Broken.{IsLeast, IsWellFormed}
use Rattle.shape_reader.specs.Parts.{IsRefused}
use Rattle.session_model.specs.declared.command.Command.{Command}
use Rattle.session_model.specs.declared.command.Command.TheVariants as commands
use Rattle.session_reader.specs.declared.read_command.ReadCommand.{ReadCommand}
use Rattle.session_reader.specs.declared.read_command.ReadCommand.TheVariants.{Begin, Add, BadAdd, Remove, BadRemove, Attach, BadAttach, Shapes, BadShapes, Commit, Find, Select, BadSelect, Report, Abort}

-- the patterns that were refused are those that had been, and perhaps others after them
abbrev pub OnlyGrows : List Refusal → List Refusal → Type 0
OnlyGrows old new = (more : List Refusal) × (new ≡ old ++ more)

-- What becomes of a shapes graph that was read, where the patterns that were refused are old before and new after.

-- it is well-formed (SHACL 3.4.2) and no pattern of it was refused: it is staged
abbrev pub IsStaged : List Triple → Command → List Refusal → List Refusal → Type 0
IsStaged ts c old new = IsWellFormed ts × (c ≡ commands.Shapes ts) × (new ≡ old)

-- it breaks rules: the least of the rows is told, and no pattern is made
abbrev pub IsBrokenGraph : List Triple → Command → List Refusal → List Refusal → Type 0
IsBrokenGraph ts c old new = (r : RuleRow) × IsLeast ts r × (c ≡ commands.BrokenShapes r.rule r.node) × (new ≡ old)

-- it is well-formed, and the pattern of a shape was refused
abbrev pub HasRefusedPattern : List Triple → Command → List Refusal → List Refusal → Type 0
HasRefusedPattern ts c old new = (n : Term) × IsWellFormed ts × IsRefused ts n old new × (c ≡ commands.RefusedPattern n)

abbrev pub IsCheckedGraph : List Triple → Command → List Refusal → List Refusal → Type 0
IsCheckedGraph ts c old new = IsStaged ts c old new ⊎ (IsBrokenGraph ts c old new ⊎ HasRefusedPattern ts c old new)

-- the command is this one, and no pattern was refused
abbrev pub IsSame : Command → Command → List Refusal → List Refusal → Type 0
IsSame d c old new = (c ≡ d) × (new ≡ old)

-- any other read command stays as it is
abbrev pub IsChecked : ReadCommand → Command → List Refusal → List Refusal → Type 0
IsChecked Begin c old new = IsSame commands.Begin c old new
IsChecked (Add ts) c old new = IsSame (commands.Add ts) c old new
IsChecked (BadAdd n kind) c old new = IsSame (commands.BadAdd n kind) c old new
IsChecked (Remove ts) c old new = IsSame (commands.Remove ts) c old new
IsChecked (BadRemove n kind) c old new = IsSame (commands.BadRemove n kind) c old new
IsChecked (Attach ts) c old new = IsSame (commands.Attach ts) c old new
IsChecked (BadAttach n kind) c old new = IsSame (commands.BadAttach n kind) c old new
IsChecked (Shapes ts) c old new = IsCheckedGraph ts c old new
IsChecked (BadShapes n kind) c old new = IsSame (commands.BadShapes n kind) c old new
IsChecked Commit c old new = IsSame commands.Commit c old new
IsChecked (Find pattern) c old new = IsSame (commands.Find pattern) c old new
IsChecked (Select ps) c old new = IsSame (commands.Select ps) c old new
IsChecked (BadSelect n) c old new = IsSame (commands.BadSelect n) c old new
IsChecked Report c old new = IsSame commands.Report c old new
IsChecked Abort c old new = IsSame commands.Abort c old new

-- one by one, equally many; each goes on from the patterns that were refused so far
abbrev pub AreChecked : List ReadCommand → List Command → List Refusal → List Refusal → Type 0
AreChecked [] [] old new = new ≡ old
AreChecked [] (c ∷ cs) old new = ⊥
AreChecked (r ∷ rs) [] old new = ⊥
AreChecked (r ∷ rs) (c ∷ cs) old new = (mid : List Refusal) × IsChecked r c old mid × AreChecked rs cs mid new
