use Rattle.shape_sizes.proofs.laws.marks_are_those_defined.Goals as goal

pub returns-clause-deactivated : goal.returns-clause-deactivated
returns-clause-deactivated c = λ s n. (λ h. h, λ h. h)

pub returns-clause-count : goal.returns-clause-count
returns-clause-count c = λ s n. (λ h. h, λ h. h)
