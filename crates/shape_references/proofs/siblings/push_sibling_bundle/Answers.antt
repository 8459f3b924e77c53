use Rattle.std.proofs.Common.{List, subst, arith}
use Rattle.std.specs.List.{Contains}
use Rattle.rdf_model.specs.declared.term.Term.{Term}
use Rattle.shape_references.specs.Siblings.{AreUnder, IsDisjointUnder, IsQualifiedUnder}
use Rattle.shape_references.proofs.BoundSteps.{bound_as, bound_none, bound_push, in_new}
use Rattle.shape_references.proofs.siblings.push_sibling_bundle.Goals as goal

pub returns-then-is_empty : goal.returns-then-is_empty
returns-then-is_empty c =
    let from = in_new (IsDisjointUnder c.args.graph.now c.args.parent.now) c.new-from.result c.push_all_disjoint.new.nodes c.new-from.ensures c.in_ok-push_all_disjoint.ensures in
    bound_none c.args.bundles.now (AreUnder c.args.graph.now c.args.parent.now)
    (λ a b h. let empty = subst (λ (xs : List Term). Contains xs a) (c.is_empty.ensures.0 c.if-is_empty.true) ((from a).1 h.0) in omega arith)

pub returns : goal.returns
returns c =
    let from = in_new (IsDisjointUnder c.args.graph.now c.args.parent.now) c.new-from.result c.push_all_disjoint.new.nodes c.new-from.ensures c.in_ok-push_all_disjoint.ensures in
    let to = in_new (IsQualifiedUnder c.args.graph.now c.args.parent.now) c.new-to.result c.push_all_qualified.new.nodes c.new-to.ensures c.in_ok-push_all_qualified.ensures in
    bound_as c.args.bundles.now c.push.new.self (λ (a b : Term). Contains c.push_all_disjoint.new.nodes a × Contains c.push_all_qualified.new.nodes b) (AreUnder c.args.graph.now c.args.parent.now)
    (λ a b. (λ h. ((from a).0 h.0, (to b).0 h.1), λ h. ((from a).1 h.0, (to b).1 h.1)))
    (bound_push c.args.bundles.now c.push.new.self _ c.in_ok-push.ensures.ok)
