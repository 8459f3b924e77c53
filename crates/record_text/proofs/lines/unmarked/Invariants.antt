use Rattle.std.proofs.Common.{◌≡◌, ◌++◌, ◌+◌, ◌≤◌, List, ℕ, length}
use Rattle.std.specs.List.{AllByRecursion, flat_map}
use Rattle.record_text.specs.Lines.{HasNoEnd, ended, marked}
use Rattle.record_text.proofs.lines.unmarked.Given as goal

abbrev pub invariant-loop-line : goal.invariant-loop-line
invariant-loop-line l = record {
  each : List (List ℕ);
  lines_of : AllByRecursion HasNoEnd each;
  text_is : l.text ≡ flat_map (marked l.mark) each ++ l.rest;
  lines_are : l.lines.items ≡ flat_map ended each;
  size : length l.lines.items + length l.rest ≤ length l.text;
}

abbrev pub decreases-loop-line : goal.decreases-loop-line
decreases-loop-line l = length l.rest
