use Rattle.std.proofs.Common.{take}
use Rattle.term_joins.specs.Numbered.{ArePatternsAt}
use Rattle.term_joins.proofs.numbered.numbered_patterns.Given as goal

abbrev pub invariant-loop-pattern : goal.invariant-loop-pattern
invariant-loop-pattern g l = ArePatternsAt (g.N.Names.terms l.names) (take l.pattern-index l.patterns) l.numbered.items
