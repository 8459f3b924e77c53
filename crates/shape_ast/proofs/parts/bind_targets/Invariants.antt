use Rattle.std.proofs.Common.{◌≡◌, ◌<◌, length, map, take}
use Rattle.std.specs.List.{All}
use Rattle.rdf_model.specs.Numbers.{term_at}
use Rattle.shape_ast.specs.Readings.{HoldsOfTarget, read_target}
use Rattle.shape_ast.proofs.parts.bind_targets.Given as goal

abbrev pub invariant-loop-target : goal.invariant-loop-target
invariant-loop-target g l = All (HoldsOfTarget (λ n. n < length (g.N.Names.terms l.names))) l.bound × (map (read_target (term_at (g.N.Names.terms l.names))) l.bound ≡ take l.target-index (map (read_target (λ t. t)) l.targets))
