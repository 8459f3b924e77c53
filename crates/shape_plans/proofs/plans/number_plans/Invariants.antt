use Rattle.std.proofs.Common.{length}
use Rattle.shape_ast.specs.Readings.{read_shapes}
use Rattle.focus_affected.specs.Plans.{AreBoundPlans}
use Rattle.shape_plans.specs.Planned.{AreFirstPlans}
use Rattle.shape_plans.proofs.plans.number_plans.Given as goal

-- the plans of the shapes so far
abbrev pub invariant-loop-place : goal.invariant-loop-place
invariant-loop-place g l = record {
  bound : AreBoundPlans (length (g.N.Names.terms l.names)) l.plans.items;
  first : AreFirstPlans (g.N.Names.terms l.names) (read_shapes l.shapes.shapes) l.place l.plans.items;
}
