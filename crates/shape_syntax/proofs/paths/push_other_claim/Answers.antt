use Rattle.shape_syntax.proofs.paths.push_other_claim.Goals as goal

pub returns-in-None-clause-path : goal.returns-in-None-clause-path
returns-in-None-clause-path c = λ blank one. absurd (c.in-None.ensures one.0 one.1 one.2)
