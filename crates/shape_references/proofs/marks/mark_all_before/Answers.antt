use Rattle.std.proofs.Common.{◌≡◌, ◌∙◌, true, arith}
use Rattle.shape_references.specs.declared.steps.Step.{Step}
use Rattle.shape_references.specs.Steps.{marked_in}
use Rattle.shape_references.proofs.MarkedChains.{inside_at, marked_all, marked_next, marked_none, more_marks}
use Rattle.shape_references.proofs.marks.mark_all_before.Goals as goal

pub loop-step-init : goal.loop-step-init
loop-step-init c = marked_none (λ (s : Step). marked_in c.args.goals.now s.to ≡ true) c.args.steps.now c.args.marks.now c.requires.none

pub mark_before-requires : goal.mark_before-requires
mark_before-requires c = λ i e. inside_at c.args.steps.now c.loop-step.step-index _ c.loop-step.marks c.requires.steps (omega arith) (c.loop-step.auto.marks ∙ c.requires.room) i e

pub loop-step-preserved : goal.loop-step-preserved
loop-step-preserved c =
    marked_next (λ (s : Step). marked_in c.args.goals.now s.to ≡ true) c.args.steps.now c.loop-step.step-index _ c.loop-step.marks c.mark_before.new.marks (omega arith) c.loop-step.invariant c.mark_before.ensures

pub returns : goal.returns
returns c = λ k l are. more_marks c.args.steps.now k c.args.goals.now c.loop-step.marks c.requires.steps l
    (marked_all (λ (s : Step). marked_in c.args.goals.now s.to ≡ true) c.args.steps.now c.loop-step.step-index c.loop-step.marks (omega arith) c.loop-step.invariant) are
