use Rattle.std.proofs.Common.{take}
use Rattle.std.specs.List.{Contains}
use Rattle.rdf_model.specs.declared.term.Term.{Term}
use Rattle.plain_components.specs.Pairs.{Shares}
use Rattle.plain_components.proofs.pairs.shares_some.Given as goal

abbrev pub invariant-loop-other : goal.invariant-loop-other
invariant-loop-other l = (w : Term) → Contains (take l.other-index l.values) w → Shares l.tag l.value w → ⊥
