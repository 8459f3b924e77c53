use Rattle.std.proofs.Common.{◌≡◌, ◌<◌, ◌+◌, ◌∙◌, length, List, ap, sym, subst, arith}
use Rattle.std.proofs.lemmas.List.{length_push}
use Rattle.rdf_model.specs.declared.term.Term.{Term}
use Rattle.plain_terms.proofs.Reaches.{AreReached, reached_all, reached_first, reached_next}
use Rattle.plain_terms.proofs.closure.reached.Goals as goal

pub loop-next-init : goal.loop-next-init
loop-next-init c = subst (λ (found : List Term). AreReached c.args.pairs.now c.args.node.now found) (sym c.in_ok-found.ensures) (reached_first c.args.pairs.now c.args.node.now)

pub loop-next-smaller : goal.loop-next-smaller
loop-next-smaller c =
    let few : length c.loop-next.found < length c.args.pairs.now + 1 =
    (reached_next c.args.pairs.now c.args.node.now c.loop-next.found c.in-Some.next.now c.loop-next.invariant (rw c.as_slice.ensures at c.in-Some.ensures)).0 in
    let more : length c.push.new.self ≡ length c.loop-next.found + 1 = ap length c.in_ok-push.ensures.ok ∙ length_push c.loop-next.found c.in_ok-clone.field-0 in
    omega arith

pub loop-next-preserved : goal.loop-next-preserved
loop-next-preserved c =
    rw (c.in_ok-push.ensures.ok, c.in_ok-clone.ensures.cases)
    (reached_next c.args.pairs.now c.args.node.now c.loop-next.found c.in-Some.next.now c.loop-next.invariant (rw c.as_slice.ensures at c.in-Some.ensures)).1

pub returns : goal.returns
returns c = reached_all c.args.pairs.now c.args.node.now c.loop-next.found c.loop-next.invariant (rw c.as_slice.ensures at c.in_default.ensures)
