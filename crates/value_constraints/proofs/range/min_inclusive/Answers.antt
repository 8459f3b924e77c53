use Rattle.value_constraints.proofs.range.min_inclusive.Goals as goal

pub returns : goal.returns
returns g c = c.outside.ensures
