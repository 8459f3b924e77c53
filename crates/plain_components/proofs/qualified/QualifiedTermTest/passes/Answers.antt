use Rattle.plain_components.proofs.qualified.QualifiedTermTest.passes.Goals as goal

pub returns-then-own : goal.returns-then-own
returns-then-own c = (λ t. (c.conforms-own.ensures.0 c.if-own.true, c.is_unmet-others.ensures.0 t), λ m. c.is_unmet-others.ensures.1 m.1)
