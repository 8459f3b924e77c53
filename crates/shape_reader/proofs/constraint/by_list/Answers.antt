use Rattle.std.proofs.Common.{◌≡◌, List, Some, subst, sym}
use Rattle.std.specs.Prelude.{◌↔◌}
use Rattle.rdf_model.specs.declared.term.Term.{Term}
use Rattle.shape_ast.specs.declared.constraint.Constraint.{Constraint}
use Rattle.shape_ast.specs.declared.constraint.Constraint.TheVariants.{ByList}
use Rattle.shape_reader.specs.declared.kind.Kind.TheVariants as kinds
use Rattle.shape_reader.specs.Parts.{IsConstraint}
use Rattle.shape_reader.proofs.Constraints.{list_some}
use Rattle.shape_reader.proofs.constraint.by_list.Goals as goal

pub returns-in_ok-clone-in-Some : goal.returns-in_ok-clone-in-Some
returns-in_ok-clone-in-Some c =
    let s = c.args.shape.now.graph in
    let nodes = c.args.shape.now.nodes in
    let v = c.args.value.now in
    let w = c.in_ok-clone-in-Some.field-0 in
    subst (λ (ms : List Term). (x : Constraint Term) → (Some (ByList c.args.component w ms) ≡ Some x) ↔ IsConstraint s nodes (kinds.List c.args.component) v x) (sym c.listed.ensures)
    (list_some s nodes v w c.in_ok-clone-in-Some.ensures.cases c.args.component c.in-Some.members (rw c.in-Some.is at c.in_ok-members.ensures))
