use Rattle.std.proofs.Common.{refl, arith}
use Rattle.shape_syntax.proofs.Scans.{in_all, none_more, read_in}
use Rattle.plain_terms.specs.Pairs.{LeadsFurther}
use Rattle.plain_terms.proofs.closure.next_reached.Goals as goal

pub returns-then-leads_further : goal.returns-then-leads_further
returns-then-leads_further c = (c.pair-item.result, read_in c.args.pairs.now c.loop-pair.pair-index c.pair-item.result (omega arith) c.pair-item.is, c.leads_further.ensures.0 c.if-leads_further.true, refl)

pub loop-pair-preserved : goal.loop-pair-preserved
loop-pair-preserved c =
    none_more (LeadsFurther c.args.nodes.now) c.args.pairs.now c.loop-pair.pair-index c.pair-item.result (omega arith) c.pair-item.is c.loop-pair.invariant
    (λ h. let k = c.leads_further.ensures.1 h in cc (k, c.if-leads_further.false))

pub returns : goal.returns
returns c = λ a h. c.loop-pair.invariant a (in_all c.args.pairs.now c.loop-pair.pair-index (omega arith) a h)
