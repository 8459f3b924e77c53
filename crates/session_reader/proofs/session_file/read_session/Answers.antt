use Rattle.std.proofs.Common.{◌≡◌, ◌∙◌, ◌+◌, ap, length, drop, arith}
use Rattle.std.proofs.lemmas.List.{length-drop}
use Rattle.std.proofs.lemmas.Result.{err_from_is_err_and}
use Rattle.session_reader.specs.declared.line.Language.{Language}
use Rattle.session_reader.specs.SessionFile.{block_text, commands_of, file_lines, header_lines, items_after, kind_of, language_of}
use Rattle.session_reader.proofs.Cursor.{lines_fit}
use Rattle.session_reader.proofs.Items.{behind, behind_header, item_fails, item_read, no_command, small_header}
use Rattle.session_reader.proofs.Lengths.{file_length, rest_short, rest_within}
use Rattle.session_reader.proofs.session_file.read_session.Goals as goal

pub loop-line-init : goal.loop-line-init
loop-line-init c =
    let file = file_lines c.args.bytes.now in
    let language = c.take_header-language.result in
    let header = header_lines language in
    let lines = c.take_header-language.ensures.lines ∙ ap (drop header) c.of_file-lines.ensures in
    let number : c.header_lines.result + 1 ≡ header + 1 = ap (λ n. n + 1) c.header_lines.ensures in
    let rest = ap (λ n. commands_of c.args.session c.args.first (items_after language 0 n c.take_header-language.new.lines)) number
    ∙ ap (λ ls. commands_of c.args.session c.args.first (items_after language 0 (header + 1) ls)) lines
    ∙ behind_header language c.args.session c.args.first header file
    ∙ ap (λ (l : Language). commands_of c.args.session c.args.first (items_after l (header_lines l) 1 file)) (c.take_header-language.ensures.language ∙ ap language_of c.of_file-lines.ensures) in
    record {
      rest = rw c.new-commands.ensures (no_command _ ∙ rest);
      next = c.requires.first;
      counted = omega (arith, small_header language, number, ap length lines, length-drop header file);
      room = omega (arith, ap (λ ls. length (block_text ls)) lines, rest_short file header);
    }

pub read_item-requires-clause-room : goal.read_item-requires-clause-room
read_item-requires-clause-room c =
    let longer = rest_within c.in-Some.line.now c.take_line.new.self in
    omega (arith, ap (λ ls. length (block_text ls)) c.in-Some.ensures, longer, c.loop-line.invariant.room, file_length c.args.bytes.now, c.requires.room)

pub overflow_add-number : goal.overflow_add-number
overflow_add-number c = omega (arith, small_header c.take_header-language.result, c.header_lines.ensures)

pub overflow_add-number-in-Some : goal.overflow_add-number-in-Some
overflow_add-number-in-Some c =
    omega (arith, ap length c.in-Some.ensures, c.in_ok-taken.ensures.rest.1, c.loop-line.invariant.counted, lines_fit (file_lines c.args.bytes.now), file_length c.args.bytes.now, c.requires.room)

pub overflow_add-number-in-Some-2 : goal.overflow_add-number-in-Some-2
overflow_add-number-in-Some-2 c =
    omega (arith, ap length c.in-Some.ensures, c.in_ok-taken.ensures.rest.1, c.loop-line.invariant.counted, lines_fit (file_lines c.args.bytes.now), file_length c.args.bytes.now, c.requires.room)

pub returns-in_err-taken : goal.returns-in_err-taken
returns-in_err-taken c =
    let p = err_from_is_err_and c.from_residual-in_err-taken.result c.from_residual-in_err-taken.ensures.1 in
    let after = c.take_line.new.self in
    let is = c.in_ok-kind.ensures ∙ ap (kind_of c.take_header-language.result) c.command_text.ensures in
    rw (p.1, p.2) (item_fails c.take_header-language.result c.args.session c.loop-line.next c.loop-line.number c.in_ok-kind.kind c.in-Some.line.now c.loop-line.lines after c.loop-line.commands _ c.in-Some.ensures is c.loop-line.invariant.rest _
    (c.in_err-taken.ensures.item (behind c.take_header-language.result c.args.session c.loop-line.number c.in_ok-kind.kind after)))

pub loop-line-preserved : goal.loop-line-preserved
loop-line-preserved c =
    let after = c.take_line.new.self in
    let is = c.in_ok-kind.ensures ∙ ap (kind_of c.take_header-language.result) c.command_text.ensures in
    let read = c.in_ok-taken.ensures.item (behind c.take_header-language.result c.args.session c.loop-line.number c.in_ok-kind.kind after) in
    let left = c.in_ok-taken.ensures.rest in
    let longer = rest_within c.in-Some.line.now after in
    record {
      rest = item_read c.take_header-language.result c.args.session c.loop-line.next c.loop-line.number c.in_ok-kind.kind c.in-Some.line.now c.loop-line.lines after c.loop-line.commands _ c.in-Some.ensures is c.loop-line.invariant.rest _ c.in_ok-taken.taken _ _ left.0 read.0 read.1;
      next = omega (arith, c.loop-line.invariant.next, c.in_ok-taken.ensures.next.0);
      counted = omega (arith, ap length c.in-Some.ensures, left.1, ap length left.0, length-drop c.in_ok-taken.taken after, c.loop-line.invariant.counted);
      room = omega (arith, ap (λ ls. length (block_text ls)) c.in-Some.ensures, longer, c.loop-line.invariant.room, c.in_ok-taken.ensures.next.1);
    }
