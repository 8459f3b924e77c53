-- How many rows there are.
use Rattle.std.specs.Prelude.{◌≡◌, ◌≤◌, ℕ, Bool, List, Some, length, slice_get}
use Rattle.rdf_model.specs.declared.term.Term.{Term}
use Rattle.rdf_model.specs.declared.triple.Triple.{Triple}
use Rattle.shape_model.specs.Paths.{Path}
use Rattle.shape_rules.specs.Broken.{IsWellFormed}
use Rattle.shape_sizes.specs.Sizes.{HasLooks, looks_of}
use Rattle.shape_ast.specs.declared.shape.Shape.{Shape}
use Rattle.shape_ast.specs.Readings.{ReadShape, read_shapes}
use Rattle.shape_ast.specs.Standing.{AreCompiled}
use Rattle.shape_ast.specs.Once.{AreOnce}
use Rattle.read_plans.specs.declared.fault.PlanFault.{PlanFault}
use Rattle.read_plans.specs.declared.fault.PlanFault.TheVariants.{Memory}
use Rattle.read_plans.specs.PathRows.{path_rows}
use Rattle.shape_model.specs.Limits.{looks_limit}
use Rattle.read_plans.specs.Rows.{IsStopped}
use Rattle.read_plans.specs.ShapeRows.{plan_rows}

-- as many rows of a path, walked forwards or backwards after any way, as it has looks
abbrev pub PathNumber : Type 0
PathNumber = (reversed : Bool) (p : Path) (q : List Path) → length (path_rows reversed p q) ≡ looks_of p

-- The shapes are those of the well-formed graph as it is compiled, each of their parts once.
pub record AreRead (shapes : List (Shape Term)) (s : List Triple) : Type 0 where
  pub well_formed : IsWellFormed s
  pub compiled : AreCompiled shapes s
  pub once : AreOnce shapes

-- the number of rows of the shape at a place
abbrev pub plan_number : List (Shape Term) → ℕ → ℕ
plan_number shapes place = length (plan_rows (read_shapes shapes) place)

-- As many rows of a compiled shape as rule 40 counts looks of its node.
abbrev pub PlanNumber : Type 0
PlanNumber = (s : List Triple) (shapes : List (Shape Term)) → AreRead shapes s
    → (place : ℕ) (c : ReadShape) → slice_get (read_shapes shapes) place ≡ Some c → HasLooks s c.node (plan_number shapes place)

-- By rule 40 they are no more than 4,096, so that a plan is given up only for want of memory.
abbrev pub NoneTooWide : Type 0
NoneTooWide = (s : List Triple) (shapes : List (Shape Term)) → AreRead shapes s → (place : ℕ) → plan_number shapes place ≤ looks_limit

abbrev pub OnlyMemory : Type 0
OnlyMemory = (s : List Triple) (shapes : List (Shape Term)) → AreRead shapes s
    → (place : ℕ) (fault : PlanFault) → IsStopped (plan_number shapes place) fault → fault ≡ Memory
