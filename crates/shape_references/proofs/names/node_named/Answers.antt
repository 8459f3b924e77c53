use Rattle.shape_references.proofs.BoundNames.{named_place, none_named}
use Rattle.shape_references.proofs.names.node_named.Goals as goal

pub returns-in_ok-node-in-Some : goal.returns-in_ok-node-in-Some
returns-in_ok-node-in-Some c = named_place c.args.nodes.now c.in-Some.place c.args.name.now c.in_ok-node-in-Some.node ((c.place_named.ensures c.in-Some.place).0 c.in-Some.is) c.in_ok-node-in-Some.ensures

pub returns-in-None : goal.returns-in-None
returns-in-None c = none_named c.args.nodes.now c.args.name.now (λ i e. let k = (c.place_named.ensures i).1 e in let n = c.in-None.is in cc)
