use Rattle.std.proofs.Common.{take}
use Rattle.plain_terms.specs.Finds.{Finds, WithSome}
use Rattle.plain_values.specs.Built.{RefusedRow}
use Rattle.plain_values.proofs.matching.refused_rows.Given as goal

abbrev pub invariant-loop-value : goal.invariant-loop-value
invariant-loop-value l = Finds (WithSome (take l.value-index l.at.values.now) (RefusedRow l.at l.patterns l.parameter l.flags)) l.rows.items
