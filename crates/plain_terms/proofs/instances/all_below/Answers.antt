use Rattle.std.proofs.Common.{◌≡◌, ◌<◌, ◌+◌, ◌∙◌, length, List, ap, sym, subst, arith}
use Rattle.std.proofs.lemmas.List.{length_push}
use Rattle.rdf_model.specs.declared.term.Term.{Term}
use Rattle.plain_terms.proofs.Classes.{AreBelow, below_all, below_first, below_next}
use Rattle.plain_terms.proofs.instances.all_below.Goals as goal

pub loop-below-init : goal.loop-below-init
loop-below-init c =
    subst (λ (found : List Term). AreBelow c.args.graph.now c.args.predicate.now c.args.node.now found) (sym c.in_ok-found.ensures) (below_first c.args.graph.now c.args.predicate.now c.args.node.now)

pub loop-below-smaller : goal.loop-below-smaller
loop-below-smaller c =
    let few : length c.loop-below.found < length c.args.graph.now + 1 =
    (below_next c.args.graph.now c.args.predicate.now c.args.node.now c.loop-below.found c.in-Some.below.now c.loop-below.invariant (rw c.as_slice.ensures at c.in-Some.ensures)).0 in
    let more : length c.push.new.self ≡ length c.loop-below.found + 1 = ap length c.in_ok-push.ensures.ok ∙ length_push c.loop-below.found c.in_ok-clone.field-0 in
    omega arith

pub loop-below-preserved : goal.loop-below-preserved
loop-below-preserved c =
    rw (c.in_ok-push.ensures.ok, c.in_ok-clone.ensures.cases)
    (below_next c.args.graph.now c.args.predicate.now c.args.node.now c.loop-below.found c.in-Some.below.now c.loop-below.invariant (rw c.as_slice.ensures at c.in-Some.ensures)).1

pub returns : goal.returns
returns c = below_all c.args.graph.now c.args.predicate.now c.args.node.now c.loop-below.found c.loop-below.invariant (rw c.as_slice.ensures at c.in_default.ensures)
