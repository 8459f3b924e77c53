use Rattle.plain_terms.proofs.Lists.{found_none, none_found}
use Rattle.plain_terms.proofs.list.has_none.Goals as goal

pub returns : goal.returns
returns c = (
  λ t. none_found c.args.graph.now c.args.node.now c.args.predicate.now c.in_ok-found.found c.in_ok-found.ensures (c.is_empty.ensures.0 t),
  λ none. c.is_empty.ensures.1 (found_none c.args.graph.now c.args.node.now c.args.predicate.now c.in_ok-found.found c.in_ok-found.ensures none),
)
