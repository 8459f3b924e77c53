use Rattle.shape_sizes.proofs.PathChains.{are_deep_paths}
use Rattle.shape_sizes.proofs.path_steps.deep_paths.Goals as goal

pub returns : goal.returns
returns c = are_deep_paths c.args.graph.now c.args.places.now c.requires.places c.in_ok-steps.steps c.in_ok-steps.ensures c.args.levels c.in_ok-nodes.nodes.keys (rw c.as_slice.ensures at c.in_ok-nodes.ensures)
