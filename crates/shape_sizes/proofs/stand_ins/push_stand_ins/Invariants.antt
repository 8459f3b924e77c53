use Rattle.shape_sizes.specs.Counted.{HaveStandIns}
use Rattle.shape_sizes.proofs.stand_ins.push_stand_ins.Given as goal

abbrev pub invariant-loop-number : goal.invariant-loop-number
invariant-loop-number l = HaveStandIns l.graph l.parents l.number l.fn.places l.places
