use Rattle.shape_reader.proofs.Gathered.{siblings_placed}
use Rattle.shape_reader.proofs.values.siblings_of.Goals as goal

pub push_siblings-requires-clause-reversed : goal.push_siblings-requires-clause-reversed
push_siblings-requires-clause-reversed c = rw c.graph.ensures.value c.reversed.ensures

pub returns : goal.returns
returns c =
    let pushed = rw (c.new-found.ensures, c.graph.ensures.value, c.node.ensures) at c.in_ok-push_siblings.ensures in
    siblings_placed c.args.shape.now.graph c.args.shape.now.nodes c.args.shape.now.node c.push_siblings.new.nodes c.in_ok-places.places pushed (rw c.as_slice.ensures at c.in_ok-places.ensures.found)
