use Rattle.std.proofs.Common.{◌≡◌, ℕ, suc, ◌+◌, length, subst, arith}
use Rattle.shape_model.specs.Readings.{reading}
use Rattle.shape_model.specs.Validation.{AtDepth}
use Rattle.plain_terms.specs.Finds.{Finds}
use Rattle.plain_validation.proofs.targets.rows_of_shape.Goals as goal

pub returns : goal.returns
returns c =
    let g = c.args.graph.now in
    let s = c.args.shapes.now in
    let e : length s + 1 ≡ suc (length s) = omega arith in
    subst (λ (n : ℕ). Finds (AtDepth n g (reading s) c.args.shape.now c.args.focus.now) c.in_ok-rows.rows.items) e c.in_ok-rows.ensures
