use Rattle.std.proofs.Common.{ℕ, List, sym, subst}
use Rattle.rdf_model.specs.Numbers.{graph_of, term_at}
use Rattle.rdf_model.specs.declared.ids.Ids.{Ids}
use Rattle.path_eval.specs.declared.instances.ClassWords.{ClassWords}
use Rattle.shape_ast.specs.declared.target.Target.{Target}
use Rattle.target_nodes.specs.Declarations.{IsTargetBy}
use Rattle.target_nodes.specs.TargetNumbers.{AreMembers, ByOne}
use Rattle.target_nodes.proofs.Members.{instance_members, object_members, subject_members}
use Rattle.target_nodes.proofs.listing.targets_by.Goals as goal

-- the clause at a declaration
abbrev Given : List Ids → ClassWords → ℕ → List ℕ → Target ℕ → Type 0
Given ids words shape found t = ByOne ids words t shape (λ terms. AreMembers terms (IsTargetBy terms (graph_of terms ids) (term_at terms shape) t) found)

pub returns-in_ok-instances_of-in-Class : goal.returns-in_ok-instances_of-in-Class
returns-in_ok-instances_of-in-Class g c =
    let ids = g.R.Triples.triples c.args.graph.now in
    let found = c.in_ok-instances_of-in-Class.field-0.items in
    subst (Given ids c.args.words c.args.shape found) (sym c.in-Class.is)
    (λ terms numbering numbered named bound lt. instance_members terms ids c.in-Class.class found (c.in_ok-instances_of-in-Class.ensures terms numbering numbered named bound))

pub returns-in_ok-instances_of-in-ImplicitClass : goal.returns-in_ok-instances_of-in-ImplicitClass
returns-in_ok-instances_of-in-ImplicitClass g c =
    let ids = g.R.Triples.triples c.args.graph.now in
    let found = c.in_ok-instances_of-in-ImplicitClass.field-0.items in
    subst (Given ids c.args.words c.args.shape found) (sym c.in-ImplicitClass.is)
    (λ terms numbering numbered named bound lt. instance_members terms ids c.args.shape found (c.in_ok-instances_of-in-ImplicitClass.ensures terms numbering numbered named lt))

pub returns-in_ok-subjects_of-in-SubjectsOf : goal.returns-in_ok-subjects_of-in-SubjectsOf
returns-in_ok-subjects_of-in-SubjectsOf g c =
    let ids = g.R.Triples.triples c.args.graph.now in
    let found = c.in_ok-subjects_of-in-SubjectsOf.field-0.items in
    subst (Given ids c.args.words c.args.shape found) (sym c.in-SubjectsOf.is)
    (λ terms numbering numbered named bound lt. subject_members terms numbering ids numbered c.in-SubjectsOf.predicate bound found c.in_ok-subjects_of-in-SubjectsOf.ensures)

pub returns-in_ok-objects_of-in-ObjectsOf : goal.returns-in_ok-objects_of-in-ObjectsOf
returns-in_ok-objects_of-in-ObjectsOf g c =
    let ids = g.R.Triples.triples c.args.graph.now in
    let found = c.in_ok-objects_of-in-ObjectsOf.field-0.items in
    subst (Given ids c.args.words c.args.shape found) (sym c.in-ObjectsOf.is)
    (λ terms numbering numbered named bound lt. object_members terms numbering ids numbered c.in-ObjectsOf.predicate bound found c.in_ok-objects_of-in-ObjectsOf.ensures)
