use Rattle.std.proofs.Common.{◌≡◌, ◌∙◌, List, map, get_or, ap, refl, subst, sym}
use Rattle.std.specs.Prelude.{◌↔◌}
use Rattle.std.specs.List.{Contains}
use Rattle.rdf_model.specs.declared.term.Term.{Term}
use Rattle.rdf_model.specs.Numbers.{term_at}
use Rattle.shape_model.specs.Looks.{LookRow}
use Rattle.shape_ast.specs.declared.shape.Shape.{Shape}
use Rattle.shape_ast.specs.Readings.{read_shapes}
use Rattle.read_plans.specs.Rows.{read_looks}
use Rattle.read_plans.specs.ShapeRows.{plan_rows}
use Rattle.focus_affected.specs.Plans.{row_of}
use Rattle.shape_plans.proofs.Standing.{plan_here}
use Rattle.shape_plans.proofs.plans.number_plan.Goals as goal

pub returns-clause-plan : goal.returns-clause-plan
returns-clause-plan g c =
    let terms = g.N.Names.terms c.args.names.now in
    let shapes = c.args.shapes.now.shapes in
    let s = c.index-as_slice-place.result in
    let is : s ≡ get_or shapes c.args.place s = subst (λ (all : List (Shape Term)). s ≡ get_or all c.args.place s) c.as_slice.ensures c.index-as_slice-place.is in
    let all : read_looks c.deref.result.now ≡ plan_rows (read_shapes shapes) c.args.place = ap read_looks c.deref.ensures.value ∙ c.in_ok-rows.ensures.rows in
    plan_here terms shapes c.args.place s (record { place = c.args.place; node = c.number_of.result; looks = c.in_ok-looks.looks }) c.requires.place is refl
    (subst (λ (shape : Shape Term). term_at terms c.number_of.result ≡ shape.node) (sym c.index-as_slice-place.is) c.number_of.ensures.term)
    (λ row. subst (λ (rows : List LookRow). Contains (map (row_of terms) c.in_ok-looks.looks) row ↔ Contains rows row) all (c.in_ok-looks.ensures.rows row))
