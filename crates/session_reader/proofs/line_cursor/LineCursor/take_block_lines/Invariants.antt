use Rattle.std.proofs.Common.{◌≡◌, ◌+◌, length, map, take, drop}
use Rattle.std.specs.Option.{option_map}
use Rattle.session_reader.specs.SessionFile.{block_length}
use Rattle.session_reader.proofs.line_cursor.LineCursor.take_block_lines.Given as goal

abbrev pub invariant-loop-line : goal.invariant-loop-line
invariant-loop-line l = record {
  value : option_map (λ n. length l.lines.items + n) (block_length l.self) ≡ block_length l.initial.self;
  rest : l.self ≡ drop (length l.lines.items) l.initial.self;
  lines : map (λ t. t.now) l.lines.items ≡ take (length l.lines.items) l.initial.self;
  within : length l.lines.items + length l.self ≡ length l.initial.self;
}

abbrev pub decreases-loop-line : goal.decreases-loop-line
decreases-loop-line l = length l.self
