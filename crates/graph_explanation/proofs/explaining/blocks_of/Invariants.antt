use Rattle.std.proofs.Common.{◌≤◌, string_bytes, take}
use Rattle.graph_explanation.specs.Firsts.{IsTextOfEach}
use Rattle.graph_explanation.proofs.explaining.blocks_of.Given as goal

abbrev pub invariant-loop-place : goal.invariant-loop-place
invariant-loop-place g l = record {
  text : IsTextOfEach l.data.terms l.data.ids l.bound.shapes (take l.place l.aimed) l.number (string_bytes l.out);
  count : l.number ≤ l.place;
}
