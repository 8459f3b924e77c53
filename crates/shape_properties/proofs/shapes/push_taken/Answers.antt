use Rattle.std.proofs.Common.{◌∙◌, sym, subst}
use Rattle.rdf_model.specs.declared.term.Term.{Term}
use Rattle.shape_properties.specs.declared.property.ShapeProperty.{ShapeProperty}
use Rattle.shape_properties.specs.Table.{role}
use Rattle.shape_properties.specs.Syntax.{Takes}
use Rattle.shape_properties.specs.OfProperties.{TakenBy}
use Rattle.shape_syntax.proofs.Loops.{gave_as}
use Rattle.shape_properties.proofs.Names.{one_property}
use Rattle.shape_properties.proofs.shapes.push_taken.Goals as goal

pub returns-in_ok-push_by_role-in-Some : goal.returns-in_ok-push_by_role-in-Some
returns-in_ok-push_by_role-in-Some c =
    let s = c.args.graph.now in
    let v = c.args.triple.now.object in
    let pushed = rw c.role.ensures at c.in_ok-push_by_role-in-Some.ensures in
    gave_as (λ (n : Term). Takes s (role c.in-Some.property) v n) (λ (n : Term). TakenBy s c.args.triple.now n) c.args.nodes.now c.push_by_role.new.nodes
    (λ n. (λ h. (c.in-Some.property, c.in-Some.ensures, h), λ h. subst (λ (p : ShapeProperty). Takes s (role p) v n) (one_property h.0 c.in-Some.property (sym h.1 ∙ c.in-Some.ensures)) h.2))
    pushed
