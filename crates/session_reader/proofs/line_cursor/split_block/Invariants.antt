use Rattle.std.proofs.Common.{◌≡◌, ◌+◌, length, take, drop}
use Rattle.std.specs.Option.{option_map}
use Rattle.session_reader.specs.SessionFile.{block_length, block_text, file_lines}
use Rattle.session_reader.proofs.line_cursor.split_block.Given as goal

abbrev pub invariant-loop-line : goal.invariant-loop-line
invariant-loop-line l = record {
  value : option_map (λ n. l.count + n) (block_length l.rest) ≡ block_length (file_lines l.bytes);
  rest : l.rest ≡ drop l.count (file_lines l.bytes);
  size : l.size ≡ length (block_text (take l.count (file_lines l.bytes)));
  within : l.count + length l.rest ≡ length (file_lines l.bytes);
}

abbrev pub decreases-loop-line : goal.decreases-loop-line
decreases-loop-line l = length l.rest
