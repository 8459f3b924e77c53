use Rattle.std.proofs.Common.{[], arith}
use Rattle.shape_syntax.proofs.Loops.{gathered_none, gathered_next, gathered_all, from_none}
use Rattle.shape_sizes.specs.PathLooks.{IsStepOf}
use Rattle.shape_sizes.proofs.path_steps.path_steps.Goals as goal

pub loop-place-init : goal.loop-place-init
loop-place-init c = rw c.new-steps.ensures (gathered_none IsStepOf c.args.places.now [])

pub loop-place-preserved : goal.loop-place-preserved
loop-place-preserved c = gathered_next IsStepOf c.args.places.now c.loop-place.place-index c.place-item.result [] c.loop-place.steps c.push_steps.new.steps (omega arith) c.place-item.is c.loop-place.invariant (rw c.as_slice.ensures at c.in_ok-push_steps.ensures)

pub returns : goal.returns
returns c = from_none IsStepOf c.args.places.now c.loop-place.steps (gathered_all IsStepOf c.args.places.now c.loop-place.place-index [] c.loop-place.steps (omega arith) c.loop-place.invariant)
