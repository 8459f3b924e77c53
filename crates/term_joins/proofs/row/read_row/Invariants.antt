use Rattle.std.proofs.Common.{◌≡◌, map, take}
use Rattle.rdf_model.specs.Numbers.{term_at}
use Rattle.term_joins.proofs.row.read_row.Given as goal

abbrev pub invariant-loop-number : goal.invariant-loop-number
invariant-loop-number g l = l.terms.items ≡ map (term_at (g.N.Names.terms l.names)) (take l.number-index l.numbers)
