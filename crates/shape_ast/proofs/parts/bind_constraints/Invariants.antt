use Rattle.std.proofs.Common.{◌≡◌, ◌<◌, length, map, take}
use Rattle.std.specs.List.{All}
use Rattle.rdf_model.specs.Numbers.{term_at}
use Rattle.shape_ast.specs.Readings.{HoldsOfConstraint, read_constraint}
use Rattle.shape_ast.proofs.parts.bind_constraints.Given as goal

abbrev pub invariant-loop-constraint : goal.invariant-loop-constraint
invariant-loop-constraint g l = All (HoldsOfConstraint (λ n. n < length (g.N.Names.terms l.names)) l.shapes) l.bound × (map (read_constraint (term_at (g.N.Names.terms l.names))) l.bound ≡ take l.constraint-index (map (read_constraint (λ t. t)) l.constraints))
