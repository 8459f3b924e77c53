use Rattle.std.proofs.Common.{◌≡◌, ◌<◌, length, map, take}
use Rattle.std.specs.List.{All}
use Rattle.rdf_model.specs.Numbers.{term_at}
use Rattle.shape_ast.proofs.parts.bind_terms.Given as goal

abbrev pub invariant-loop-term : goal.invariant-loop-term
invariant-loop-term g l = All (λ n. n < length (g.N.Names.terms l.names)) l.bound × (map (term_at (g.N.Names.terms l.names)) l.bound ≡ take l.term-index (map (λ t. t) l.terms))
