use Rattle.std.proofs.Common.{◌≡◌, length}
use Rattle.triple_table.specs.Ranks.{AreRanks}
use Rattle.triple_table.proofs.ranks.ranks_of.Given as goal

abbrev pub invariant-loop-rank : goal.invariant-loop-rank
invariant-loop-rank l = record {
  long : length l.ranks.items ≡ l.count;
  ranks : AreRanks l.sorted l.rank l.ranks.items;
}
