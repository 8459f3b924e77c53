use Rattle.std.proofs.Common.{◌∙◌, arith}
use Rattle.shape_references.specs.declared.steps.Step.{Step}
use Rattle.shape_references.proofs.MarkedChains.{inside_at, marked_all, marked_none, marked_start, marks_of_one}
use Rattle.shape_references.proofs.marks.mark_starts.Goals as goal

pub loop-step-init : goal.loop-step-init
loop-step-init c = marked_none (λ (s : Step). Unit {0}) c.args.steps.now c.args.marks.now c.requires.none

pub put_mark-requires : goal.put_mark-requires
put_mark-requires c = λ i e. inside_at c.args.steps.now c.loop-step.step-index _ c.loop-step.marks c.requires.steps (omega arith) (c.loop-step.auto.marks ∙ c.requires.room) i e

pub loop-step-preserved : goal.loop-step-preserved
loop-step-preserved c = marked_start c.args.steps.now c.loop-step.step-index _ c.loop-step.marks c.put_mark.new.marks (omega arith) c.loop-step.invariant c.put_mark.ensures

pub returns : goal.returns
returns c = marks_of_one c.args.steps.now c.loop-step.marks (marked_all (λ (s : Step). Unit {0}) c.args.steps.now c.loop-step.step-index c.loop-step.marks (omega arith) c.loop-step.invariant)
