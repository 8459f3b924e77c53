use Rattle.shape_syntax.proofs.lookup.triples_of.Goals as goal

pub returns-clause-members : goal.returns-clause-members
returns-clause-members c = rw c.as_slice.ensures at c.triples_near.ensures.members
