use Rattle.std.proofs.Common.{◌+◌, ◌∙◌, sym, ap, length, take, arith}
use Rattle.std.specs.Option.{option_map}
use Rattle.session_reader.specs.SessionFile.{block_length, file_lines}
use Rattle.session_reader.proofs.Cursor.{counted_on, lines_fit}
use Rattle.session_reader.proofs.Lengths.{file_length, front_text, left_more, line_within, longer_by}
use Rattle.session_reader.proofs.line_cursor.split_block.Goals as goal

pub returns-then-is_block_end-clause-text : goal.returns-then-is_block_end-clause-text
returns-then-is_block_end-clause-text c =
    let here = sym c.loop-line.invariant.rest ∙ c.in-Some.ensures in
    let within = line_within c.args.bytes.now c.loop-line.count c.in-Some.line.now c.take_line.new.self here in
    let size = c.loop-line.invariant.size in
    (omega (arith, size, within), ap (λ n. take n c.args.bytes.now) size ∙ front_text c.args.bytes.now c.loop-line.count (omega (arith, within)))

pub returns-then-is_block_end-clause-rest : goal.returns-then-is_block_end-clause-rest
returns-then-is_block_end-clause-rest c =
    let here = sym c.loop-line.invariant.rest ∙ c.in-Some.ensures in
    (sym (left_more c.loop-line.count (file_lines c.args.bytes.now) c.in-Some.line.now c.take_line.new.self here), omega (arith, c.loop-line.invariant.within, ap length c.in-Some.ensures))

pub overflow_add-size-in-Some : goal.overflow_add-size-in-Some
overflow_add-size-in-Some c =
    let here = sym c.loop-line.invariant.rest ∙ c.in-Some.ensures in
    let within = line_within c.args.bytes.now c.loop-line.count c.in-Some.line.now c.take_line.new.self here in
    omega (arith, c.loop-line.invariant.size, within)

pub overflow_add-count : goal.overflow_add-count
overflow_add-count c =
    let lines = file_lines c.args.bytes.now in
    omega (arith, c.loop-line.invariant.within, ap length c.in-Some.ensures, lines_fit lines, file_length c.args.bytes.now)

pub loop-line-preserved : goal.loop-line-preserved
loop-line-preserved c =
    let lines = file_lines c.args.bytes.now in
    let here = sym c.loop-line.invariant.rest ∙ c.in-Some.ensures in
    let line = c.in-Some.line.now in
    let after = c.take_line.new.self in
    record {
      value = sym (counted_on c.loop-line.count line after c.if-is_block_end.ensures) ∙ ap (λ ls. option_map (λ n. c.loop-line.count + n) (block_length ls)) (sym c.in-Some.ensures) ∙ c.loop-line.invariant.value;
      rest = sym (left_more c.loop-line.count lines line after here);
      size = omega (arith, c.loop-line.invariant.size, longer_by c.loop-line.count lines line after here);
      within = omega (arith, c.loop-line.invariant.within, ap length c.in-Some.ensures);
    }
