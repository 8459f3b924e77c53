use Rattle.std.proofs.Common.{take}
use Rattle.std.specs.List.{Contains}
use Rattle.plain_values.specs.declared.built.BuiltPattern.{BuiltPattern}
use Rattle.plain_values.specs.Built.{Accepts}
use Rattle.plain_values.proofs.matching.is_accepted.Given as goal

abbrev pub invariant-loop-pattern : goal.invariant-loop-pattern
invariant-loop-pattern l = (p : BuiltPattern) → Contains (take l.pattern-index l.patterns) p → Accepts l.parameter l.flags l.value p → ⊥
