-- Bound shapes stay bound where more terms are named.
use Rattle.std.proofs.Common.{List, ◌++◌, sym, subst}
use Rattle.rdf_model.specs.declared.term.Term.{Term}
use Rattle.shape_ast.specs.Readings.{ReadShape}
use Rattle.shape_ast.specs.Standing.{StandFor}
use Rattle.shape_plans.proofs.Longer.{planned_longer, shapes_longer}
use Rattle.bound_shapes.specs.Bound.{BoundGraph, IsBoundTo}

pub still_bound : (terms more : List Term) (b : BoundGraph) → IsBoundTo terms b → IsBoundTo (terms ++ more) b
still_bound terms more b h = record {
  planned = planned_longer terms more b.planned h.planned;
  stand = subst (λ (all : List ReadShape). StandFor all b.graph) (sym (shapes_longer terms more b.planned h.planned)) h.stand;
  acyclic = h.acyclic;
  shallow = h.shallow;
}
