use Rattle.value_constraints.proofs.range.max_inclusive.Goals as goal

pub returns : goal.returns
returns g c = c.outside.ensures
