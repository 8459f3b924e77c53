use Rattle.std.proofs.Common.{◌+◌, [], ◌∷◌, ◌++◌, ◌∙◌, sym, ap, length, map, take, drop, arith}
use Rattle.std.specs.Option.{option_map}
use Rattle.session_reader.specs.SessionFile.{block_length}
use Rattle.session_reader.proofs.Cursor.{counted_on, map_on, one_more}
use Rattle.session_reader.proofs.Lengths.{left_more, taken_more}
use Rattle.session_reader.proofs.line_cursor.LineCursor.take_block_lines.Goals as goal

pub returns-then-is_block_end-clause-rest : goal.returns-then-is_block_end-clause-rest
returns-then-is_block_end-clause-rest c =
    let here = sym c.loop-line.invariant.rest ∙ c.in-Some.ensures in
    (sym (left_more (length c.loop-line.lines.items) c.args.self.now c.in-Some.line.now c.take_line.new.self here), omega (arith, c.loop-line.invariant.within, ap length c.in-Some.ensures))

pub loop-line-preserved : goal.loop-line-preserved
loop-line-preserved c =
    let all = c.args.self.now in
    let count = length c.loop-line.lines.items in
    let here = sym c.loop-line.invariant.rest ∙ c.in-Some.ensures in
    let line = c.in-Some.line.now in
    let after = c.take_line.new.self in
    let more = c.in_ok-push.ensures.items in
    let size = ap length more ∙ one_more c.loop-line.lines.items c.in-Some.line in
    record {
      value = ap (λ k. option_map (λ n. k + n) (block_length after)) size ∙ sym (counted_on count line after c.if-is_block_end.ensures) ∙ ap (λ ls. option_map (λ n. count + n) (block_length ls)) (sym c.in-Some.ensures) ∙ c.loop-line.invariant.value;
      rest = sym (left_more count all line after here) ∙ ap (λ k. drop k all) (sym size);
      lines = ap (map (λ t. t.now)) more ∙ map_on (λ t. t.now) c.loop-line.lines.items c.in-Some.line ∙ ap (λ ls. ls ++ line ∷ []) c.loop-line.invariant.lines ∙ sym (taken_more count all line after here) ∙ ap (λ k. take k all) (sym size);
      within = omega (arith, c.loop-line.invariant.within, ap length c.in-Some.ensures, size);
    }
