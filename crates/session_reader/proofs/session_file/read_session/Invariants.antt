use Rattle.std.proofs.Common.{◌≡◌, ◌+◌, ◌≤◌, length}
use Rattle.session_reader.specs.SessionFile.{block_text, commands_of, file_lines, items_after, items_of}
use Rattle.session_reader.specs.Progress.{with_commands}
use Rattle.session_reader.proofs.session_file.read_session.Given as goal

abbrev pub invariant-loop-line : goal.invariant-loop-line
invariant-loop-line l = record {
  rest : with_commands l.commands (commands_of l.session l.next (items_after l.language 0 l.number l.lines)) ≡ commands_of l.session l.first (items_of (file_lines l.bytes));
  next : 1 ≤ l.next;
  counted : l.number + length l.lines ≤ length (file_lines l.bytes) + 2;
  room : l.next + length (block_text l.lines) ≤ l.first + length (block_text (file_lines l.bytes));
}

abbrev pub decreases-loop-line : goal.decreases-loop-line
decreases-loop-line l = length l.lines
