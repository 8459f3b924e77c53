-- One read command after another is checked.
use Rattle.std.proofs.Common.{◌≡◌, ◌∙◌, List, [], ◌∷◌, ◌++◌, refl, sym, ap, subst, inl, inr, append_assoc}
use Rattle.std.proofs.lemmas.List.{append-nil}
use Rattle.rdf_model.specs.declared.term.Term.{Term}
use Rattle.rdf_model.specs.declared.triple.Triple.{Triple}
use Rattle.outside.specs.Faults.{Refusal}
use Rattle.shape_reader.specs.Parts.{IsRefused}
use Rattle.session_model.specs.declared.command.Command.{Command}
use Rattle.session_reader.specs.declared.read_command.ReadCommand.{ReadCommand}
use Rattle.session_reader.specs.declared.read_command.ReadCommand.TheVariants.{Begin, Add, BadAdd, Remove, BadRemove, Attach, BadAttach, Shapes, BadShapes, Commit, Find, Select, BadSelect, Report, Abort}
use Rattle.session_reader.specs.Checking.{AreChecked, IsChecked, IsCheckedGraph, OnlyGrows}

-- the refused patterns grow
pub grows_same : (old new : List Refusal) → new ≡ old → OnlyGrows old new
grows_same old new e = ([], e ∙ sym (append-nil old))

pub grows_none : (xs : List Refusal) → OnlyGrows xs xs
grows_none xs = ([], sym (append-nil xs))

pub grows_on : (old mid new : List Refusal) → OnlyGrows old mid → OnlyGrows mid new → OnlyGrows old new
grows_on old mid new a b = (a.0 ++ b.0, b.1 ∙ (ap (λ xs. xs ++ b.0) a.1 ∙ append_assoc old a.0 b.0))

pub grows_refused : (ts : List Triple) (n : Term) (old new : List Refusal) → IsRefused ts n old new → OnlyGrows old new
grows_refused ts n old new h = ((h.1, h.2) ∷ [], h.6)

graph_grows : (ts : List Triple) (c : Command) (old new : List Refusal) → IsCheckedGraph ts c old new → OnlyGrows old new
graph_grows ts c old new (inl h) = grows_same old new h.2
graph_grows ts c old new (inr (inl h)) = grows_same old new h.3
graph_grows ts c old new (inr (inr h)) = grows_refused ts h.0 old new h.2

pub command_grows : (r : ReadCommand) (c : Command) (old new : List Refusal) → IsChecked r c old new → OnlyGrows old new
command_grows Begin c old new h = grows_same old new h.1
command_grows (Add ts) c old new h = grows_same old new h.1
command_grows (BadAdd n kind) c old new h = grows_same old new h.1
command_grows (Remove ts) c old new h = grows_same old new h.1
command_grows (BadRemove n kind) c old new h = grows_same old new h.1
command_grows (Attach ts) c old new h = grows_same old new h.1
command_grows (BadAttach n kind) c old new h = grows_same old new h.1
command_grows (Shapes ts) c old new h = graph_grows ts c old new h
command_grows (BadShapes n kind) c old new h = grows_same old new h.1
command_grows Commit c old new h = grows_same old new h.1
command_grows (Find pattern) c old new h = grows_same old new h.1
command_grows (Select ps) c old new h = grows_same old new h.1
command_grows (BadSelect n) c old new h = grows_same old new h.1
command_grows Report c old new h = grows_same old new h.1
command_grows Abort c old new h = grows_same old new h.1

pub commands_grow : (rs : List ReadCommand) (cs : List Command) (old new : List Refusal) → AreChecked rs cs old new → OnlyGrows old new
commands_grow [] [] old new h = grows_same old new h
commands_grow [] (c ∷ cs) old new h = absurd h
commands_grow (r ∷ rs) [] old new h = absurd h
commands_grow (r ∷ rs) (c ∷ cs) old new h = grows_on old h.0 new (command_grows r c old h.0 h.1) (commands_grow rs cs h.0 new h.2)

-- one more of each
pub checked-push : (rs : List ReadCommand) (cs : List Command) (r : ReadCommand) (c : Command) (old mid new : List Refusal) → AreChecked rs cs old mid → IsChecked r c mid new → AreChecked (rs ++ r ∷ []) (cs ++ c ∷ []) old new
checked-push [] [] r c old mid new all one = (new, subst (λ (xs : List Refusal). IsChecked r c xs new) all one, refl)
checked-push [] (d ∷ ds) r c old mid new all one = absurd all
checked-push (q ∷ qs) [] r c old mid new all one = absurd all
checked-push (q ∷ qs) (d ∷ ds) r c old mid new all one = (all.0, all.1, checked-push qs ds r c all.0 mid new all.2 one)
