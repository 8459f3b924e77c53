use Rattle.shape_syntax.proofs.PathSteps.{alone_at}
use Rattle.shape_syntax.proofs.steps.alone_leads_on.Goals as goal

pub returns-in-Some : goal.returns-in-Some
returns-in-Some c = (
  λ h. (c.in-Some.triple.now.predicate, c.in-Some.triple.now.object, c.in-Some.ensures, c.leads_on.ensures.0 h),
  λ i. c.leads_on.ensures.1 (alone_at c.args.graph.now c.args.known.now.paths.keys c.args.known.now.lists.keys c.args.node.now c.in-Some.triple.now.predicate c.in-Some.triple.now.object c.in-Some.ensures i),
)

pub returns-in-None : goal.returns-in-None
returns-in-None c = (λ h. cc, λ i. absurd (c.in-None.ensures i.0 i.1 i.2))
