use Rattle.std.proofs.Common.{arith}
use Rattle.shape_syntax.proofs.Scans.{in_all}
use Rattle.shape_references.proofs.RankedNodes.{level_more}
use Rattle.shape_references.proofs.ranks.are_level.Goals as goal

pub loop-step-preserved : goal.loop-step-preserved
loop-step-preserved c = level_more c.args.ranks.now c.args.steps.now c.loop-step.step-index _ (omega arith) (c.is_level.ensures.0 c.if-not-is_level.false) c.loop-step.invariant

pub returns : goal.returns
returns c = λ h s there. c.loop-step.invariant s (in_all c.args.steps.now c.loop-step.step-index (omega arith) s there)
