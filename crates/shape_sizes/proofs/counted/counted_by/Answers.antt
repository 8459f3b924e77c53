use Rattle.shape_sizes.proofs.counted.counted_by.Goals as goal

pub returns : goal.returns
returns c = (c.in_ok-nodes.nodes, c.in_ok-nodes.ensures, c.in_ok-push.ensures.ok)
