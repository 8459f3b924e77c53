use Rattle.std.proofs.Common.{map, take}
use Rattle.std.specs.List.{All}
use Rattle.rdf_model.specs.Numbers.{graph_of, term_at}
use Rattle.component_rows.specs.Listed.{Collects}
use Rattle.shape_ast.specs.Readings.{named_shapes, read_constraint, read_shape}
use Rattle.shape_ast.specs.Standing.{IsLinked}
use Rattle.shape_eval.specs.Around.{around}
use Rattle.component_rows.specs.Nodes.{HasNode}
use Rattle.path_eval.specs.Naming.{AddsLooks}
use Rattle.collections.specs.Listings.{Keeps}
use Rattle.shape_eval.specs.Looks.{ConstraintReads, ReadsOfSome}
use Rattle.shape_eval.specs.ShapeRows.{ConstraintRow, FromSome}
use Rattle.shape_eval.specs.Told.{AsksSome, WhereRight}
use Rattle.shape_eval.proofs.own_rows.constraints_rows.Given as goal

abbrev pub invariant-loop-constraint : goal.invariant-loop-constraint
invariant-loop-constraint g l =
    let terms = l.evaluation.terms in
    let ids = l.evaluation.ids in
    record {
      rows : WhereRight terms ids l.evaluation.shapes l.values l.told (AsksSome l.shape l.constraints) (λ s n. All (IsLinked (named_shapes terms l.evaluation.shapes)) (map (read_constraint (term_at terms)) l.constraints)
          → Collects (FromSome (take l.constraint-index l.constraints) (λ k r. ConstraintRow (around terms ids s n l.values l.focus) (named_shapes terms l.evaluation.shapes) (read_shape (term_at terms) l.shape) (term_at terms l.focus) (read_constraint (term_at terms) k) r)) l.rows.items);
      looks : AddsLooks terms (ReadsOfSome (take l.constraint-index l.constraints) (λ k. ConstraintReads (graph_of terms ids) (HasNode terms l.values) (term_at terms l.focus) (read_constraint (term_at terms) k))) l.fn.footprint l.footprint;
      kept : Keeps l.fn.footprint l.footprint;
    }
