use Rattle.std.proofs.Common.{take}
use Rattle.data_graph.specs.Numbering.{AreNumbersWhereNamed}
use Rattle.data_graph.proofs.numbering.number_terms.Given as goal

abbrev pub invariant-loop-place : goal.invariant-loop-place
invariant-loop-place l = AreNumbersWhereNamed l.names.terms (take l.place l.terms) l.numbers.items
