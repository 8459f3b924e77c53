use Rattle.std.proofs.Common.{ℕ, Bool, List, refl, sym, subst}
use Rattle.rdf_model.specs.Numbers.{term_at}
use Rattle.rdf_model.specs.declared.ids.Ids.{Ids}
use Rattle.rdf_model.specs.declared.look.Look.{Look}
use Rattle.rdf_model.specs.declared.look.Look.TheVariants.{Out, In}
use Rattle.path_eval.specs.declared.instances.ClassWords.{ClassWords}
use Rattle.shape_ast.specs.declared.target.Target.{Target}
use Rattle.target_nodes.specs.TargetNumbers.{AtNode, ByOne, IsDecidedBy}
use Rattle.target_nodes.proofs.Members.{has_object, has_subject}
use Rattle.path_eval.proofs.Footprints.{looks_one}
use Rattle.target_nodes.proofs.testing.is_target_by.Goals as goal

-- the clause at a declaration
abbrev Given : List Ids → ClassWords → ℕ → ℕ → Bool → List (Look ℕ) → List (Look ℕ) → Target ℕ → Type 0
Given ids words shape node answer old new t = ByOne ids words t shape (AtNode node (λ terms. IsDecidedBy terms ids t shape node answer old new))

pub returns-in_ok-is_instance-in-Class-clause-decided : goal.returns-in_ok-is_instance-in-Class-clause-decided
returns-in_ok-is_instance-in-Class-clause-decided g c =
    let ids = g.R.Triples.triples c.args.graph.now in
    let e = c.in_ok-is_instance-in-Class.ensures in
    subst (Given ids c.args.words c.args.shape c.args.node c.in_ok-is_instance-in-Class.field-0 c.args.footprint.now c.is_instance.new.footprint) (sym c.in-Class.is)
    (λ terms numbering numbered named bound lt at. record {
      answered = e.answer terms numbering numbered named at bound;
      looks = e.looks terms numbering numbered named at;
    })

pub returns-in_ok-is_instance-in-ImplicitClass-clause-decided : goal.returns-in_ok-is_instance-in-ImplicitClass-clause-decided
returns-in_ok-is_instance-in-ImplicitClass-clause-decided g c =
    let ids = g.R.Triples.triples c.args.graph.now in
    let e = c.in_ok-is_instance-in-ImplicitClass.ensures in
    subst (Given ids c.args.words c.args.shape c.args.node c.in_ok-is_instance-in-ImplicitClass.field-0 c.args.footprint.now c.is_instance-in-ImplicitClass.new.footprint) (sym c.in-ImplicitClass.is)
    (λ terms numbering numbered named bound lt at. record {
      answered = e.answer terms numbering numbered named at lt;
      looks = e.looks terms numbering numbered named at;
    })

pub returns-in_ok-finds-in-SubjectsOf-clause-decided : goal.returns-in_ok-finds-in-SubjectsOf-clause-decided
returns-in_ok-finds-in-SubjectsOf-clause-decided g c =
    let ids = g.R.Triples.triples c.args.graph.now in
    let p = c.in-SubjectsOf.predicate in
    let e = c.in_ok-finds-in-SubjectsOf.ensures in
    let old = c.args.footprint.now in
    let new = c.finds.new.footprint in
    subst (Given ids c.args.words c.args.shape c.args.node c.in_ok-finds-in-SubjectsOf.field-0 old new) (sym c.in-SubjectsOf.is)
    (λ terms numbering numbered named bound lt at. record {
      answered = let k = has_object terms numbering ids numbered p bound c.args.node at in (λ t. k.0 (e.answer.0 t), λ h. e.answer.1 (k.1 h));
      looks = looks_one terms numbering (Out c.args.node p) (at, bound) (Out (term_at terms c.args.node) (term_at terms p)) refl old new e.looks;
    })

pub returns-in_ok-finds-in-ObjectsOf-clause-decided : goal.returns-in_ok-finds-in-ObjectsOf-clause-decided
returns-in_ok-finds-in-ObjectsOf-clause-decided g c =
    let ids = g.R.Triples.triples c.args.graph.now in
    let p = c.in-ObjectsOf.predicate in
    let e = c.in_ok-finds-in-ObjectsOf.ensures in
    let old = c.args.footprint.now in
    let new = c.finds-in-ObjectsOf.new.footprint in
    subst (Given ids c.args.words c.args.shape c.args.node c.in_ok-finds-in-ObjectsOf.field-0 old new) (sym c.in-ObjectsOf.is)
    (λ terms numbering numbered named bound lt at. record {
      answered = let k = has_subject terms numbering ids numbered p bound c.args.node at in (λ t. k.0 (e.answer.0 t), λ h. e.answer.1 (k.1 h));
      looks = looks_one terms numbering (In p c.args.node) (bound, at) (In (term_at terms p) (term_at terms c.args.node)) refl old new e.looks;
    })
