use Rattle.std.proofs.Common.{take}
use Rattle.plain_terms.specs.Finds.{Finds, WithSome}
use Rattle.plain_components.specs.Rows.{ForbiddenRow}
use Rattle.plain_components.proofs.closed.triple_rows.Given as goal

abbrev pub invariant-loop-triple : goal.invariant-loop-triple
invariant-loop-triple l = Finds (WithSome (take l.triple-index l.at.graph.now) (ForbiddenRow l.at l.parameter l.allowed)) l.rows.items
