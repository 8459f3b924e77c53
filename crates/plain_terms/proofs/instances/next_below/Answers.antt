use Rattle.std.proofs.Common.{refl, arith}
use Rattle.shape_syntax.proofs.Scans.{in_all, none_more, read_in}
use Rattle.plain_terms.specs.Finds.{LeadsBelow}
use Rattle.plain_terms.proofs.instances.next_below.Goals as goal

pub returns-then-leads_below : goal.returns-then-leads_below
returns-then-leads_below c = (c.triple-item.result, read_in c.args.graph.now c.loop-triple.triple-index c.triple-item.result (omega arith) c.triple-item.is, c.leads_below.ensures.0 c.if-leads_below.true, refl)

pub loop-triple-preserved : goal.loop-triple-preserved
loop-triple-preserved c =
    none_more (LeadsBelow c.args.predicate.now c.args.nodes.now) c.args.graph.now c.loop-triple.triple-index c.triple-item.result (omega arith) c.triple-item.is c.loop-triple.invariant
    (λ h. let k = c.leads_below.ensures.1 h in cc (k, c.if-leads_below.false))

pub returns : goal.returns
returns c = λ t h. c.loop-triple.invariant t (in_all c.args.graph.now c.loop-triple.triple-index (omega arith) t h)
