use Rattle.std.proofs.Common.{◌≡◌, ◌<◌, ℕ, List, ap, length, arith, subst, sym}
use Rattle.shape_ast.specs.declared.shape.Shape.{Shape}
use Rattle.parallel_validate.specs.Counting.{StepsOfFirst}
use Rattle.kept_rows.specs.declared.kept_row.KeptRow.{KeptRow}
use Rattle.kept_validation.specs.Keeping.{KeepsOfFirst}
use Rattle.parallel_validate.proofs.Counting.{more_steps, no_steps}
use Rattle.kept_validation.proofs.Keeping.{more_shape, no_shape}
use Rattle.kept_validation.proofs.whole.all_rows.Goals as goal

pub loop-shape-preserved : goal.loop-shape-preserved
loop-shape-preserved g c =
    let within : c.loop-shape.shape < length c.args.evaluation.now.shapes = omega (arith, c.loop-shape-test.true, c.len-shape-end.ensures, ap (λ (xs : List (Shape ℕ)). length xs) c.bound-bound.ensures) in
    record {
      rows = more_shape c.args.evaluation.now.terms c.args.evaluation.now.ids c.args.evaluation.now.shapes c.loop-shape.shape c.loop-shape.rows.items c.in_ok-more.more.items c.append.new.self.items within c.in_ok-append.ensures.items c.loop-shape.invariant.rows c.in_ok-more.ensures.rows;
      steps = more_steps c.args.evaluation.now.terms c.args.evaluation.now.ids c.args.evaluation.now.shapes c.loop-shape.shape c.args.steps.now c.loop-shape.steps c.rows_of_shape.new.steps within c.loop-shape.invariant.steps c.in_ok-more.ensures.steps;
      counted = let before = c.loop-shape.invariant.counted in let more = c.rows_of_shape.ensures.counted in omega (arith, before, more);
    }

pub returns-clause-rows : goal.returns-clause-rows
returns-clause-rows g c =
    let terms = c.args.evaluation.now.terms in
    let ids = c.args.evaluation.now.ids in
    let shapes = c.args.evaluation.now.shapes in
    let all : c.loop-shape.shape ≡ length shapes = omega (arith, c.loop-shape-test.false, c.loop-shape.auto.shape-end, c.len-shape-end.ensures, ap (λ (xs : List (Shape ℕ)). length xs) c.bound-bound.ensures) in
    subst (λ k. KeepsOfFirst terms ids shapes k c.loop-shape.rows.items) all c.loop-shape.invariant.rows

pub returns-clause-steps : goal.returns-clause-steps
returns-clause-steps g c =
    let terms = c.args.evaluation.now.terms in
    let ids = c.args.evaluation.now.ids in
    let shapes = c.args.evaluation.now.shapes in
    let all : c.loop-shape.shape ≡ length shapes = omega (arith, c.loop-shape-test.false, c.loop-shape.auto.shape-end, c.len-shape-end.ensures, ap (λ (xs : List (Shape ℕ)). length xs) c.bound-bound.ensures) in
    subst (λ k. StepsOfFirst terms ids shapes k c.args.steps.now c.loop-shape.steps) all c.loop-shape.invariant.steps

pub loop-shape-init : goal.loop-shape-init
loop-shape-init g c = record {
  rows = subst (λ (ks : List KeptRow). KeepsOfFirst c.args.evaluation.now.terms c.args.evaluation.now.ids c.args.evaluation.now.shapes 0 ks) (sym c.new-rows.ensures.items) (no_shape c.args.evaluation.now.terms c.args.evaluation.now.ids c.args.evaluation.now.shapes);
  steps = no_steps c.args.evaluation.now.terms c.args.evaluation.now.ids c.args.evaluation.now.shapes c.args.steps.now;
  counted = omega arith;
}

pub returns-clause-counted : goal.returns-clause-counted
returns-clause-counted g c = c.loop-shape.invariant.counted

pub returns-in_err-more-clause-counted : goal.returns-in_err-more-clause-counted
returns-in_err-more-clause-counted g c = let before = c.loop-shape.invariant.counted in let more = c.rows_of_shape.ensures.counted in omega (arith, before, more)

pub returns-in_err-append-clause-counted : goal.returns-in_err-append-clause-counted
returns-in_err-append-clause-counted g c = let before = c.loop-shape.invariant.counted in let more = c.rows_of_shape.ensures.counted in omega (arith, before, more)
