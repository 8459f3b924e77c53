use Rattle.std.proofs.Common.{◌≡◌, ℕ, Global, Vec, map, take}
use Rattle.rdf_model.specs.Numbers.{term_at}
use Rattle.term_joins.proofs.row.read_rows.Given as goal

abbrev pub invariant-loop-row : goal.invariant-loop-row
invariant-loop-row g l = l.named.items ≡ map (map (term_at (g.N.Names.terms l.names))) (map (λ (v : Vec ℕ Global). v.items) (take l.row-index l.rows))
