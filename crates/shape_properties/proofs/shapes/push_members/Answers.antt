use Rattle.std.proofs.Common.{List, subst}
use Rattle.rdf_model.specs.declared.term.Term.{Term}
use Rattle.shape_model.specs.Triples.{IsMember}
use Rattle.shape_properties.specs.Syntax.{IsListed}
use Rattle.shape_syntax.proofs.Lists.{one_list}
use Rattle.shape_syntax.proofs.Loops.{gave_as}
use Rattle.shape_properties.proofs.shapes.push_members.Goals as goal

pub returns-in_ok-push_each-in-Some : goal.returns-in_ok-push_each-in-Some
returns-in_ok-push_each-in-Some c =
    let list = rw c.in-Some.is at c.in_ok-members.ensures in
    let pushed = rw c.as_slice.ensures at c.in_ok-push_each-in-Some.ensures in
    gave_as (λ (n : Term). IsMember c.in-Some.members n) (λ (n : Term). IsListed c.args.graph.now c.args.head.now n) c.args.nodes.now c.push_each.new.nodes
    (λ n. (λ h. (c.in-Some.members, list, h), λ h. subst (λ (ms : List Term). IsMember ms n) (one_list c.args.graph.now c.args.head.now h.0 c.in-Some.members h.1 list) h.2))
    pushed
