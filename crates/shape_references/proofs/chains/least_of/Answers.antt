use Rattle.shape_references.proofs.LeastChain.{first_key, no_keys}
use Rattle.shape_references.proofs.chains.least_of.Goals as goal

pub returns-in_ok-clone-in-Some : goal.returns-in_ok-clone-in-Some
returns-in_ok-clone-in-Some c = rw c.in_ok-clone-in-Some.ensures.cases (first_key c.args.nodes.now.keys c.in-Some.node.now c.in-Some.ensures.first c.in-Some.ensures.all_from)

pub returns-in-None : goal.returns-in-None
returns-in-None c = no_keys c.args.nodes.now.keys (λ l. let k = rw c.in-None.is at (c.first.ensures.variant.1 l) in cc)
