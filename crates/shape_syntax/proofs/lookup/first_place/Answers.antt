use Rattle.shape_syntax.proofs.lookup.first_place.Goals as goal

pub returns-clause-none : goal.returns-clause-none
returns-clause-none c = rw c.as_slice.ensures at c.place_near.ensures.none
