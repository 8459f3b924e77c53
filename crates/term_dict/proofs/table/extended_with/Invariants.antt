use Rattle.std.proofs.Common.{◌≡◌, take, drop}
use Rattle.term_dict.specs.Names.{AreNumbersOf, with_terms}
use Rattle.term_dict.proofs.table.extended_with.Given as goal

abbrev pub invariant-loop-term : goal.invariant-loop-term
invariant-loop-term l = record {
  rest : with_terms l.table (drop l.term-index l.terms) ≡ with_terms l.fn.table l.terms;
  numbers : AreNumbersOf l.table (take l.term-index l.terms) l.numbers.items;
}
