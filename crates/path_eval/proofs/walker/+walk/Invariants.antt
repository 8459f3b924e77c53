use Rattle.std.proofs.Common.{◌+◌, ◌-◌, ◌*◌, ◌^◌}
use Rattle.path_eval.specs.Walkers.{Explores, plan_of}
use Rattle.path_eval.proofs.Going.{plan_size}
use Rattle.path_eval.proofs.walker.+walk.Given as goal

-- the first nodes up to this level have been gone on from; no more are entered than there are numbers
abbrev pub invariant-explore-loop-done : goal.invariant-explore-loop-done
invariant-explore-loop-done g l = Explores (g.R.Triples.triples l.graph) l.fn.walker l.walker l.from l.done l.fn.entered l.entered l.fn.footprint l.footprint

abbrev pub decreases-explore-loop-done : goal.decreases-explore-loop-done
decreases-explore-loop-done g l = 2 ^ 32 - l.done

abbrev pub decreases-walk_on : goal.decreases-walk_on
decreases-walk_on g a = plan_size (plan_of a.walker.now) * 3

abbrev pub decreases-advance : goal.decreases-advance
decreases-advance g a = plan_size (plan_of a.walker.now) * 3 + 1

abbrev pub decreases-explore : goal.decreases-explore
decreases-explore g a = plan_size (plan_of a.walker.now) * 3 + 2
