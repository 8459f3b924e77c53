use Rattle.std.proofs.Common.{ap, length, arith}
use Rattle.session_reader.specs.SessionFile.{block_text}
use Rattle.session_reader.proofs.Cursor.{lines_fit}
use Rattle.session_reader.proofs.Lengths.{after_block, block_within}
use Rattle.session_reader.proofs.session_file.read_block_item.Goals as goal

pub read_block-requires-clause-room : goal.read_block-requires-clause-room
read_block-requires-clause-room c = omega (arith, ap length c.in-Some.ensures.text, block_within c.args.after.now c.in-Some.count, c.requires.room)

pub returns-clause-next : goal.returns-clause-next
returns-clause-next c =
    let text = ap length c.in-Some.ensures.text in
    let left = ap (λ ls. length (block_text ls)) c.in-Some.ensures.rest.0 in
    let within = after_block c.args.after.now c.in-Some.count c.args.next.now c.read_block.new.next (omega (arith, text, c.in_ok-command.ensures.within.1)) in
    (c.in_ok-command.ensures.within.0, omega (arith, left, within))

pub overflow_add-result : goal.overflow_add-result
overflow_add-result c = omega (arith, c.in-Some.ensures.rest.1, lines_fit c.args.after.now, c.requires.room)
