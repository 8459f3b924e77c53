use Rattle.std.proofs.Common.{List, subst, arith}
use Rattle.std.specs.List.{Contains}
use Rattle.rdf_model.specs.declared.term.Term.{Term}
use Rattle.shape_references.proofs.BoundSteps.{bound_as, bound_none, bound_push, in_new}
use Rattle.shape_properties.specs.OfProperties.{TakenBy}
use Rattle.shape_sizes.specs.Referring.{IsReferredBy}
use Rattle.shape_sizes.proofs.ReferenceChains.{one_in}
use Rattle.shape_sizes.proofs.referring.push_direct.Goals as goal

pub returns-then-is_empty : goal.returns-then-is_empty
returns-then-is_empty c =
    let to = in_new (TakenBy c.args.graph.now c.args.triple.now) c.new-to.result c.push_taken.new.nodes c.new-to.ensures c.in_ok-push_taken.ensures in
    bound_none c.args.bundles.now (IsReferredBy c.args.graph.now c.args.triple.now)
    (λ a b h. let empty = subst (λ (xs : List Term). Contains xs b) (c.is_empty.ensures.0 c.if-is_empty.true) ((to b).1 h.1) in omega arith)

pub returns : goal.returns
returns c =
    let t = c.args.triple.now in
    let to = in_new (TakenBy c.args.graph.now t) c.new-to.result c.push_taken.new.nodes c.new-to.ensures c.in_ok-push_taken.ensures in
    let from = one_in c.new-from.result c.push.new.self t.subject c.new-from.ensures (rw c.in_ok-clone.ensures.cases at c.in_ok-push.ensures.ok) in
    bound_as c.args.bundles.now c.push-2.new.self (λ (a b : Term). Contains c.push.new.self a × Contains c.push_taken.new.nodes b) (IsReferredBy c.args.graph.now t)
    (λ a b. (λ h. ((from a).0 h.0, (to b).0 h.1), λ h. ((from a).1 h.0, (to b).1 h.1)))
    (bound_push c.args.bundles.now c.push-2.new.self _ c.in_ok-push-2.ensures.ok)
