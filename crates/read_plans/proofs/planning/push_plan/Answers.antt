use Rattle.std.proofs.Common.{◌≡◌, ◌∙◌, ◌++◌, List, [], map, get_or, ap, sym}
use Rattle.std.specs.List.{flat_map}
use Rattle.std.specs.Prelude.{slice_get}
use Rattle.rdf_model.specs.declared.term.Term.{Term}
use Rattle.path_ast.specs.PathReadings.{defined_path}
use Rattle.shape_ast.specs.declared.target.Target.{Target}
use Rattle.shape_ast.specs.Readings.{read_shapes, read_target}
use Rattle.read_plans.specs.ShapeRows.{all_target_rows, plan_rows, shape_rows, target_rows}
use Rattle.read_plans.proofs.Growing.{then_adds}
use Rattle.read_plans.proofs.ShapeSteps.{got_at, read_at}
use Rattle.read_plans.proofs.planning.push_plan.Goals as goal

pub returns : goal.returns
returns c =
    let shapes = c.args.shapes.now in
    let s = get_or shapes c.args.place c.index-shapes-place.result in
    let at = read_at shapes c.args.place s (got_at shapes c.args.place c.index-shapes-place.result c.requires) in
    let targets : flat_map target_rows (map (read_target (λ t. t)) c.as_slice.result.now) ≡ all_target_rows (slice_get (read_shapes shapes) c.args.place) =
    ap (λ (ts : List (Target Term)). flat_map target_rows (map (read_target (λ t. t)) ts)) c.as_slice.ensures ∙ sym (ap all_target_rows at) in
    let none : c.deref.result.now ≡ [] = c.deref.ensures.value ∙ c.new-none.ensures.items in
    let e : shape_rows (read_shapes shapes) c.most_levels.result c.args.place (map defined_path c.deref.result.now) ++ flat_map target_rows (map (read_target (λ t. t)) c.as_slice.result.now) ≡ plan_rows (read_shapes shapes) c.args.place =
    λ i. shape_rows (read_shapes shapes) (c.most_levels.ensures i) c.args.place (map defined_path (none i)) ++ targets i in
    then_adds c.args.rows.now c.push_shape.new.rows c.push_targets.new.rows (shape_rows (read_shapes shapes) c.most_levels.result c.args.place (map defined_path c.deref.result.now))
    (flat_map target_rows (map (read_target (λ t. t)) c.as_slice.result.now)) (plan_rows (read_shapes shapes) c.args.place) c.push_targets.result (sym e) c.in_ok-push_shape.ensures c.push_targets.ensures
