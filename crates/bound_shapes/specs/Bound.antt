-- Shapes by the numbers of their terms, and the names to which they are bound.
use Rattle.std.specs.Prelude.{List}
use Rattle.rdf_model.specs.declared.term.Term.{Term}
use Rattle.rdf_model.specs.declared.triple.Triple.{Triple}
use Rattle.shape_model.specs.Limits.{levels_limit}
use Rattle.shape_model.specs.Readings.{IsAcyclic, IsShallow}
use Rattle.shape_ast.specs.Readings.{named_shapes}
use Rattle.shape_ast.specs.Standing.{StandFor}
use Rattle.shape_plans.specs.declared.planned.PlannedShapes.{PlannedShapes}
use Rattle.shape_plans.specs.Planned.{ArePlanned}

-- what bound shapes are to contracts: the triples of their graph, and the shapes with their plans
pub record BoundGraph : Type 0 where
  pub graph : List Triple
  pub planned : PlannedShapes

-- Each number of the shapes has its term among the terms. Read so, they stand for the graph, with their plans; no shape refers
-- to itself, and no chain of references is longer than an evaluation follows.
pub record IsBoundTo (terms : List Term) (b : BoundGraph) : Type 0 where
  pub planned : ArePlanned terms b.planned
  pub stand : StandFor (named_shapes terms b.planned.bound.shapes) b.graph
  pub acyclic : IsAcyclic b.graph
  pub shallow : IsShallow levels_limit b.graph
