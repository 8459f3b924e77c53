use Rattle.value_constraints.proofs.Membership.{AnswersTo}
use Rattle.value_constraints.proofs.set.are_among.Given as goal

abbrev pub invariant-loop-number : goal.invariant-loop-number
invariant-loop-number l = AnswersTo l.numbers l.members l.answers.items l.number-index
