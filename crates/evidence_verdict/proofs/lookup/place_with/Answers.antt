use Rattle.std.proofs.Common.{◌∙◌, arith}
use Rattle.evidence_verdict.proofs.Placed.{all_passed, more_passed}
use Rattle.evidence_verdict.proofs.lookup.place_with.Goals as goal

pub loop-place-preserved : goal.loop-place-preserved
loop-place-preserved g c =
    let e = c.args.evaluation.now in
    more_passed e.terms e.shapes c.recall.ensures.bound c.recall.ensures.numbering c.args.node c.requires.node c.as_slice-shape-items.result.now (c.as_slice-shape-items.ensures ∙ c.bound-bound.ensures)
    c.loop-place.place c.shape-item.result c.loop-place-test.true c.shape-item.is (λ is. omega (arith, is, c.if-shape-node.false)) c.loop-place.invariant

pub returns : goal.returns
returns g c =
    let e = c.args.evaluation.now in
    record { place = all_passed e.terms e.shapes c.recall.ensures.bound c.as_slice-shape-items.result.now (c.as_slice-shape-items.ensures ∙ c.bound-bound.ensures) c.args.node c.loop-place.place c.loop-place-test.false c.loop-place.invariant }
