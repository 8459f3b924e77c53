use Rattle.std.proofs.Common.{◌≡◌, take}
use Rattle.term_dict.specs.Entries.{entries_from}
use Rattle.term_dict.proofs.table.entries_of.Given as goal

abbrev pub invariant-loop-number : goal.invariant-loop-number
invariant-loop-number l = record {
  terms : l.named ≡ take l.number l.terms;
  entries : l.by_hash.items ≡ entries_from 0 (take l.number l.terms);
}
