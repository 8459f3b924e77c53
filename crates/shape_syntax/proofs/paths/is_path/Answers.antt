use Rattle.shape_syntax.proofs.PathSteps.{path_known}
use Rattle.shape_syntax.proofs.paths.is_path.Goals as goal

pub returns : goal.returns
returns c =
    let same = path_known c.args.graph.now c.args.nodes.now.keys c.requires c.args.node.now in
    (λ h. same.0 (c.is_known.ensures.0 h), λ p. c.is_known.ensures.1 (same.1 p))
