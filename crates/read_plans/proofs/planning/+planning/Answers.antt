use Rattle.std.proofs.Common.{◌≡◌, ◌∙◌, ◌-◌, ℕ, List, map, ap, subst}
use Rattle.std.specs.List.{flat_map}
use Rattle.std.proofs.lemmas.Result.{err_from_is_err_and}
use Rattle.shape_model.specs.Looks.{LookRow}
use Rattle.path_ast.specs.PathReadings.{defined_path}
use Rattle.shape_ast.specs.Readings.{read_shape, read_shapes}
use Rattle.read_plans.specs.ShapeRows.{own_rows, referred_places, shape_rows, value_way}
use Rattle.read_plans.specs.Rows.{Adds}
use Rattle.read_plans.proofs.Growing.{adds_none, first_stopped, flat_stopped, stopped_exit, then_adds}
use Rattle.read_plans.proofs.ShapeSteps.{activated, deactivated, found_at, no_levels, no_shape, none_at, none_from, positive, read_at}
use Rattle.read_plans.proofs.planning.+planning.Goals.{push_shape-then-levels-eq0-via-then-levels-eq0, push_shape-then-levels-eq0-via-else-levels-eq0+then-shape}
use Rattle.read_plans.proofs.planning.+planning.Goals as goal

pub push_shape-returns-in_default : goal.push_shape-returns-in_default
push_shape-returns-in_default t c =
    let shapes = c.args.shapes.now in
    let q = map defined_path c.args.way.now in
    adds_none c.args.rows.now (shape_rows (read_shapes shapes) c.args.levels c.args.place q)
    (no_shape (read_shapes shapes) c.args.place q c.args.levels (none_at shapes c.args.place (none_from shapes c.args.place c.in_default.ensures.lookup.3)))

pub push_shape-returns-then-levels-eq0 : goal.push_shape-returns-then-levels-eq0
push_shape-returns-then-levels-eq0 t c =
    let shapes = c.args.shapes.now in
    let s = c.in-Some.shape.now in
    let q = map defined_path c.args.way.now in
    let at = read_at shapes c.args.place s (found_at shapes c.args.place s c.in-Some.ensures.lookup.3.0 c.in-Some.ensures.lookup.1) in
    adds_none c.args.rows.now (shape_rows (read_shapes shapes) c.args.levels c.args.place q)
    (elim c.then-levels-eq0.branch [
      | push_shape-then-levels-eq0-via-then-levels-eq0 w ↦ no_levels (read_shapes shapes) c.args.place q c.args.levels w.if-levels-eq0.true
      | push_shape-then-levels-eq0-via-else-levels-eq0+then-shape w ↦ deactivated (read_shapes shapes) c.args.place q (read_shape (λ t. t) s) at c.args.levels w.if-shape.true
    ])

pub push_shape-returns-in_err-push_own_rows : goal.push_shape-returns-in_err-push_own_rows
push_shape-returns-in_err-push_own_rows t c =
    let shapes = c.args.shapes.now in
    let s = c.in-Some.shape.now in
    let r = read_shape (λ t. t) s in
    let q = map defined_path c.args.way.now in
    let at = read_at shapes c.args.place s (found_at shapes c.args.place s c.in-Some.ensures.lookup.3.0 c.in-Some.ensures.lookup.1) in
    let all = shape_rows (read_shapes shapes) c.args.levels c.args.place q in
    let rest = flat_map (λ (n : ℕ). shape_rows (read_shapes shapes) (c.args.levels - 1) n (value_way r.path q)) (referred_places r) in
    let e = activated (read_shapes shapes) c.args.place q r at c.args.levels (positive c.args.levels c.if-levels-eq0.false) c.if-shape.false in
    let f = c.in_err-push_own_rows.field-0.0 in
    let k = err_from_is_err_and c.from_residual-in_err-push_own_rows.result c.from_residual-in_err-push_own_rows.ensures.1 in
    stopped_exit all c.args.rows.now c.push_own_rows.new.rows c.from_residual-in_err-push_own_rows.result f k.0 k.1 k.2
    (first_stopped c.args.rows.now (own_rows r q) rest all f e c.in_err-push_own_rows.ensures)

pub push_shape-returns : goal.push_shape-returns
push_shape-returns t c =
    let shapes = c.args.shapes.now in
    let s = c.in-Some.shape.now in
    let r = read_shape (λ t. t) s in
    let q = map defined_path c.args.way.now in
    let at = read_at shapes c.args.place s (found_at shapes c.args.place s c.in-Some.ensures.lookup.3.0 c.in-Some.ensures.lookup.1) in
    let all = shape_rows (read_shapes shapes) c.args.levels c.args.place q in
    let rest = flat_map (λ (n : ℕ). shape_rows (read_shapes shapes) (c.args.levels - 1) n (value_way r.path q)) (referred_places r) in
    let e = activated (read_shapes shapes) c.args.place q r at c.args.levels (positive c.args.levels c.if-levels-eq0.false) c.if-shape.false in
    let same_way : map defined_path c.as_slice-2.result.now ≡ value_way r.path q = ap (map defined_path) c.as_slice-2.ensures ∙ c.in_ok-values.ensures in
    let same_places : c.deref.result.now ≡ referred_places r = c.deref.ensures.value ∙ c.in_ok-places.ensures in
    then_adds c.args.rows.now c.push_own_rows.new.rows c.push_shapes.new.rows (own_rows r q) rest all c.push_shapes.result e c.in_ok-push_own_rows.ensures
    (subst (λ (rows : List LookRow). Adds rows c.push_own_rows.new.rows c.push_shapes.new.rows c.push_shapes.result) (λ i. flat_map (λ (n : ℕ). shape_rows (read_shapes shapes) (c.args.levels - 1) n (same_way i)) (same_places i)) c.push_shapes.ensures)

pub push_shapes-returns-in_err-push_shape : goal.push_shapes-returns-in_err-push_shape
push_shapes-returns-in_err-push_shape t c =
    let below : ℕ → List LookRow = (λ n. shape_rows (read_shapes c.args.shapes.now) c.args.levels n (map defined_path c.args.way.now)) in
    let all = flat_map below c.args.places.now in
    let f = c.in_err-push_shape.field-0.0 in
    let k = err_from_is_err_and c.from_residual.result c.from_residual.ensures.1 in
    stopped_exit all c.args.rows.now c.push_shape.new.rows c.from_residual.result f k.0 k.1 k.2
    (flat_stopped below c.args.places.now c.loop-place.place-index 0 c.loop-place-test.true c.args.rows.now c.loop-place.rows all f c.loop-place.invariant c.in_err-push_shape.ensures)
