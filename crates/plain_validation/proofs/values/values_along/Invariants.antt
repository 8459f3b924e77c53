use Rattle.std.proofs.Common.{take}
use Rattle.plain_terms.specs.Finds.{Finds, WithSome}
use Rattle.plain_terms.specs.Ways.{LeadsTo}
use Rattle.plain_validation.proofs.values.values_along.Given as goal

abbrev pub invariant-loop-path : goal.invariant-loop-path
invariant-loop-path l = Finds (WithSome (take l.path-index l.paths) (λ node value. LeadsTo l.graph l.shapes node l.focus value)) l.found.items
