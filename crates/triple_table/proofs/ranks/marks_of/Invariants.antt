use Rattle.std.proofs.Common.{◌≡◌, length, take}
use Rattle.triple_table.specs.Ranks.{AreMarks}
use Rattle.triple_table.proofs.ranks.marks_of.Given as goal

abbrev pub invariant-loop-triple : goal.invariant-loop-triple
invariant-loop-triple l = record {
  long : length l.marks.items ≡ length l.terms;
  marked : AreMarks l.marks.items (take l.triple-index l.triples);
}
