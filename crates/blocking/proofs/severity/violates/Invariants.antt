use Rattle.std.proofs.Common.{◌≡◌, take}
use Rattle.std.specs.List.{Contains}
use Rattle.rdf_model.specs.declared.term.Term.{Term}
use Rattle.shape_ast.specs.declared.shape.Shape.{Shape}
use Rattle.blocking.proofs.severity.violates.Given as goal

abbrev pub invariant-loop-shape : goal.invariant-loop-shape
invariant-loop-shape l = (c : Shape Term) → Contains (take l.shape-index l.shape-items) c → c.node ≡ l.row.source_shape → ⊥
