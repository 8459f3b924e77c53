-- A file has one list of commands: a shapes graph is either well-formed or has one least broken row.
use Rattle.std.proofs.Common.{◌≡◌, ◌∙◌, List, [], ◌∷◌, ◌++◌, Ok, refl, sym, ap, subst, inl, inr, append_assoc}
use Rattle.std.proofs.lemmas.List.{append-nil, append_cancel_left}
use Rattle.rdf_model.specs.declared.term.Term.{Term}
use Rattle.rdf_model.specs.declared.triple.Triple.{Triple}
use Rattle.outside.specs.Faults.{Refusal}
use Rattle.shape_rules.specs.declared.rule_row.RuleRow.{RuleRow}
use Rattle.shape_rules.proofs.OneLeast.{one_least}
use Rattle.shape_reader.specs.Parts.{IsRefused}
use Rattle.session_model.specs.declared.command.Command.{Command}
use Rattle.session_model.specs.declared.command.Command.TheVariants as commands
use Rattle.session_reader.specs.declared.read_command.ReadCommand.{ReadCommand}
use Rattle.session_reader.specs.declared.read_command.ReadCommand.TheVariants.{Begin, Add, BadAdd, Remove, BadRemove, Attach, BadAttach, Shapes, BadShapes, Commit, Find, Select, BadSelect, Report, Abort}
use Rattle.session_reader.specs.Checking.{AreChecked, IsChecked, IsCheckedGraph, OnlyGrows}
use Rattle.session_reader.specs.Laws.{FileHasOneSession}
use Rattle.session_reader.proofs.Checks.{command_grows, commands_grow}

-- where the refused patterns are the same at the end, they were the same throughout
none_left : {X : Type 0} (a b : List X) → a ++ b ≡ [] → a ≡ []
none_left [] b h = refl
none_left (x ∷ a) b h = cc

same_throughout : (old mid : List Refusal) → OnlyGrows old mid → OnlyGrows mid old → mid ≡ old
same_throughout old mid a b =
    let whole : old ++ (a.0 ++ b.0) ≡ old ++ [] = sym (append_assoc old a.0 b.0) ∙ (ap (λ xs. xs ++ b.0) (sym a.1) ∙ (sym b.1 ∙ sym (append-nil old))) in
    let none : a.0 ≡ [] = none_left a.0 b.0 (append_cancel_left old (a.0 ++ b.0) [] whole) in
    a.1 ∙ (ap (λ xs. old ++ xs) none ∙ append-nil old)

-- no pattern was refused
never_refused : (ts : List Triple) (n : Term) (old : List Refusal) → IsRefused ts n old old → ⊥
never_refused ts n old h =
    let one : List Refusal = (h.1, h.2) ∷ [] in
    let no : one ≡ [] = append_cancel_left old one [] (sym h.6 ∙ sym (append-nil old)) in cc

graph_one : (ts : List Triple) (c d : Command) (old other : List Refusal) → IsCheckedGraph ts c old old → IsCheckedGraph ts d other other → d ≡ c
graph_one ts c d old other (inl h) (inl k) = k.1 ∙ sym h.1
graph_one ts c d old other (inl h) (inr (inl k)) = absurd (h.0 k.0 k.1.0)
graph_one ts c d old other (inr (inl h)) (inl k) = absurd (k.0 h.0 h.1.0)
graph_one ts c d old other (inr (inl h)) (inr (inl k)) = k.2 ∙ (ap (λ (r : RuleRow). commands.BrokenShapes r.rule r.node) (one_least ts k.0 h.0 k.1 h.1) ∙ sym h.2)
graph_one ts c d old other (inr (inr h)) k = absurd (never_refused ts h.0 old h.2)
graph_one ts c d old other (inl h) (inr (inr k)) = absurd (never_refused ts k.0 other k.2)
graph_one ts c d old other (inr (inl h)) (inr (inr k)) = absurd (never_refused ts k.0 other k.2)

command_one : (r : ReadCommand) (c d : Command) (old other : List Refusal) → IsChecked r c old old → IsChecked r d other other → d ≡ c
command_one Begin c d old other h k = k.0 ∙ sym h.0
command_one (Add ts) c d old other h k = k.0 ∙ sym h.0
command_one (BadAdd n kind) c d old other h k = k.0 ∙ sym h.0
command_one (Remove ts) c d old other h k = k.0 ∙ sym h.0
command_one (BadRemove n kind) c d old other h k = k.0 ∙ sym h.0
command_one (Attach ts) c d old other h k = k.0 ∙ sym h.0
command_one (BadAttach n kind) c d old other h k = k.0 ∙ sym h.0
command_one (Shapes ts) c d old other h k = graph_one ts c d old other h k
command_one (BadShapes n kind) c d old other h k = k.0 ∙ sym h.0
command_one Commit c d old other h k = k.0 ∙ sym h.0
command_one (Find pattern) c d old other h k = k.0 ∙ sym h.0
command_one (Select ps) c d old other h k = k.0 ∙ sym h.0
command_one (BadSelect n) c d old other h k = k.0 ∙ sym h.0
command_one Report c d old other h k = k.0 ∙ sym h.0
command_one Abort c d old other h k = k.0 ∙ sym h.0

-- the first command and the others, of which no pattern was refused
first_kept : (r : ReadCommand) (rs : List ReadCommand) (c : Command) (cs : List Command) (old : List Refusal) → AreChecked (r ∷ rs) (c ∷ cs) old old → IsChecked r c old old × AreChecked rs cs old old
first_kept r rs c cs old h =
    let same : h.0 ≡ old = same_throughout old h.0 (command_grows r c old h.0 h.1) (commands_grow rs cs h.0 old h.2) in
    (subst (λ (xs : List Refusal). IsChecked r c old xs) same h.1, subst (λ (xs : List Refusal). AreChecked rs cs xs old) same h.2)

commands_one : (rs : List ReadCommand) (cs ds : List Command) (old other : List Refusal) → AreChecked rs cs old old → AreChecked rs ds other other → ds ≡ cs
commands_one [] [] [] old other h k = refl
commands_one [] [] (d ∷ ds) old other h k = absurd k
commands_one [] (c ∷ cs) ds old other h k = absurd h
commands_one (r ∷ rs) [] ds old other h k = absurd h
commands_one (r ∷ rs) (c ∷ cs) [] old other h k = absurd k
commands_one (r ∷ rs) (c ∷ cs) (d ∷ ds) old other h k =
    let a = first_kept r rs c cs old h in
    let b = first_kept r rs d ds other k in
    let head : d ≡ c = command_one r c d old other a.0 b.0 in
    let tail : ds ≡ cs = commands_one rs cs ds old other a.1 b.1 in
    ap (λ (x : Command). x ∷ ds) head ∙ ap (λ (xs : List Command). c ∷ xs) tail

pub one_session : FileHasOneSession
one_session s first bytes cs ds old other h k =
    let same : Ok k.0 ≡ Ok h.0 = sym k.1 ∙ h.1 in
    let read : k.0 ≡ h.0 = cc in
    commands_one h.0 cs ds old other h.2 (subst (λ (rs : List ReadCommand). AreChecked rs ds other other) read k.2)
