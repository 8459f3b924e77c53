-- When plans are those of compiled shapes, and what is kept of shapes by number.
use Rattle.std.specs.Prelude.{◌≡◌, ◌↔◌, ◌<◌, ◌≤◌, ℕ, List, length, map, Some, slice_get}
use Rattle.std.specs.List.{Contains}
use Rattle.rdf_model.specs.declared.term.Term.{Term}
use Rattle.rdf_model.specs.declared.triple.Triple.{Triple}
use Rattle.rdf_model.specs.Numbers.{term_at}
use Rattle.shape_model.specs.Limits.{levels_limit, looks_limit}
use Rattle.shape_model.specs.Looks.{LookRow}
use Rattle.shape_model.specs.Readings.{IsAcyclic, IsShallow}
use Rattle.path_eval.specs.Instances.{AreClassWords}
use Rattle.shape_ast.specs.declared.target.Target.{Target}
use Rattle.shape_ast.specs.Readings.{AreBound, ReadShape, named_shapes}
use Rattle.shape_ast.specs.Standing.{AreBuilt, StandFor}
use Rattle.read_plans.specs.ShapeRows.{plan_rows}
use Rattle.focus_affected.specs.declared.plan.ShapePlan.{ShapePlan}
use Rattle.focus_affected.specs.Plans.{AreBoundPlans, row_of}
use Rattle.focus_affected.specs.Touched.{ArePlans}
use Rattle.shape_plans.specs.declared.planned.PlannedShapes.{PlannedShapes}

-- no shape has more looks than it may have
abbrev pub AreFew : List ReadShape → Type 0
AreFew shapes = (place : ℕ) → length (plan_rows shapes place) ≤ looks_limit

-- the shape at the place declares some target (SHACL 2.1.3)
abbrev pub Declares : List ReadShape → ℕ → Type 0
Declares shapes place = (c : ReadShape) × (slice_get shapes place ≡ Some c) × ((t : Target Term) × Contains c.targets t)

-- the plan is that of the shape at its place: it has just the rows of its looks
pub record IsPlanOf (terms : List Term) (shapes : List ReadShape) (plan : ShapePlan) : Type 0 where
  pub at : (c : ReadShape) × (slice_get shapes plan.place ≡ Some c) × (c.node ≡ term_at terms plan.node)
  pub rows : (row : LookRow) → Contains (map (row_of terms) plan.looks) row ↔ Contains (plan_rows shapes plan.place) row

-- the plans are those of the shapes among the first k that declare targets
pub record AreFirstPlans (terms : List Term) (shapes : List ReadShape) (k : ℕ) (plans : List ShapePlan) : Type 0 where
  pub each : (plan : ShapePlan) → Contains plans plan → IsPlanOf terms shapes plan
  pub declare : (plan : ShapePlan) → Contains plans plan → Declares shapes plan.place
  pub all : (place : ℕ) → place < k → Declares shapes place → (plan : ShapePlan) × Contains plans plan × (plan.place ≡ place)

-- the plans are those of the shapes: each stands at the place of its shape, and for each shapes graph that the shapes stand
-- for, in which no shape refers to itself and no chain of references is longer than 256, they are its plans
pub record ArePlansOf (terms : List Term) (shapes : List ReadShape) (plans : List ShapePlan) : Type 0 where
  pub places : (plan : ShapePlan) → Contains plans plan → (c : ReadShape) × (slice_get shapes plan.place ≡ Some c) × (c.node ≡ term_at terms plan.node)
  pub planned : (s : List Triple) → StandFor shapes s → IsAcyclic s → IsShallow levels_limit s → ArePlans terms s plans

-- shapes by number, with the numbers of the words for classes and their plans
pub record ArePlanned (terms : List Term) (planned : PlannedShapes) : Type 0 where
  pub words : AreClassWords terms planned.words
  pub bound : AreBound terms planned.bound.shapes
  pub built : AreBuilt (term_at terms) planned.bound.shapes
  pub bound_plans : AreBoundPlans (length terms) planned.plans
  pub plans : ArePlansOf terms (named_shapes terms planned.bound.shapes) planned.plans
