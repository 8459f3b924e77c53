use Rattle.shape_rules.proofs.limits.is_deep.Goals as goal

pub returns : goal.returns
returns c =
    let k = c.requires.deep c.args.node.now c.requires.node in
    (λ h. k.0 (c.is_in.ensures.0 h), λ d. c.is_in.ensures.1 (k.1 d))
