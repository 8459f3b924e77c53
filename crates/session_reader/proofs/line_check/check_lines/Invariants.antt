use Rattle.std.proofs.Common.{◌≡◌, ◌+◌, ◌≤◌, ◌||◌, length}
use Rattle.session_reader.specs.LineCheck.{any_shapes, first_bad}
use Rattle.session_reader.specs.SessionFile.{file_lines, items_after, items_of}
use Rattle.session_reader.proofs.line_check.check_lines.Given as goal

abbrev pub invariant-loop-line : goal.invariant-loop-line
invariant-loop-line l = record {
  bad : first_bad (items_after l.language 0 l.number l.lines) ≡ first_bad (items_of (file_lines l.bytes));
  shapes : (l.shapes || any_shapes (items_after l.language 0 l.number l.lines)) ≡ any_shapes (items_of (file_lines l.bytes));
  counted : l.number + length l.lines ≤ length (file_lines l.bytes) + 2;
}

abbrev pub decreases-loop-line : goal.decreases-loop-line
decreases-loop-line l = length l.lines
