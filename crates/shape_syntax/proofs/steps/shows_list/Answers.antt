use Rattle.shape_syntax.proofs.PathSteps.{list_at}
use Rattle.shape_syntax.proofs.steps.shows_list.Goals as goal

pub returns-in-Some : goal.returns-in-Some
returns-in-Some c = (
  λ h. let k = c.is_path_list.ensures.0 h in (c.in-Some.first.now, c.in-Some.rest.now, c.in-Some.ensures, k.0, k.1),
  λ i. c.is_path_list.ensures.1 (list_at c.args.graph.now c.args.known.now.paths.keys c.args.known.now.lists.keys c.args.node.now c.in-Some.first.now c.in-Some.rest.now c.in-Some.ensures i),
)

pub returns-in-None : goal.returns-in-None
returns-in-None c = (λ h. cc, λ i. absurd (c.in-None.ensures i.0 i.1 i.2))
