use Rattle.std.proofs.Common.{◌≡◌, ◌∙◌, ◌+◌, ◌||◌, List, ap, length, drop, arith, refl, sym}
use Rattle.std.proofs.Math.Bool.{or-false}
use Rattle.std.proofs.lemmas.List.{length-drop}
use Rattle.std.proofs.lemmas.Result.{err_from_is_err_and}
use Rattle.session_reader.specs.declared.line.Language.{Language}
use Rattle.session_reader.specs.LineCheck.{any_shapes, first_bad}
use Rattle.session_reader.specs.SessionFile.{Item, file_lines, header_lines, items_after, items_of, kind_of, language_of}
use Rattle.session_reader.proofs.Cursor.{lines_fit}
use Rattle.session_reader.proofs.Items.{small_header}
use Rattle.session_reader.proofs.Lengths.{file_length}
use Rattle.session_reader.proofs.LineChecks.{are_commands, are_none, bad_here, good_behind, items_behind_header, shapes_behind}
use Rattle.session_reader.proofs.line_check.check_lines.Goals as goal

pub loop-line-init : goal.loop-line-init
loop-line-init c =
    let file = file_lines c.args.bytes.now in
    let language = c.take_header-language.result in
    let header = header_lines language in
    let lines = c.take_header-language.ensures.lines ∙ ap (drop header) c.of_file-lines.ensures in
    let number : c.header_lines.result + 1 ≡ header + 1 = ap (λ n. n + 1) c.header_lines.ensures in
    let items = ap (λ n. items_after language 0 n c.take_header-language.new.lines) number
    ∙ ap (items_after language 0 (header + 1)) lines
    ∙ items_behind_header language header file
    ∙ ap (λ (l : Language). items_after l (header_lines l) 1 file) (c.take_header-language.ensures.language ∙ ap language_of c.of_file-lines.ensures) in
    record {
      bad = ap first_bad items;
      shapes = ap any_shapes items;
      counted = omega (arith, small_header language, number, ap length lines, length-drop header file);
    }

pub overflow_add-number : goal.overflow_add-number
overflow_add-number c = omega (arith, small_header c.take_header-language.result, c.header_lines.ensures)

pub skip_item-requires : goal.skip_item-requires
skip_item-requires c =
    omega (arith, ap length c.in-Some.ensures, c.loop-line.invariant.counted, lines_fit (file_lines c.args.bytes.now), file_length c.args.bytes.now, c.requires)

pub overflow_add-number-in-Some : goal.overflow_add-number-in-Some
overflow_add-number-in-Some c =
    omega (arith, ap length c.in-Some.ensures, c.in_ok-taken.ensures.rest.1, c.loop-line.invariant.counted, lines_fit (file_lines c.args.bytes.now), file_length c.args.bytes.now, c.requires)

pub overflow_add-number-in-Some-2 : goal.overflow_add-number-in-Some-2
overflow_add-number-in-Some-2 c =
    omega (arith, ap length c.in-Some.ensures, c.in_ok-taken.ensures.rest.1, c.loop-line.invariant.counted, lines_fit (file_lines c.args.bytes.now), file_length c.args.bytes.now, c.requires)

pub returns-in_err-taken : goal.returns-in_err-taken
returns-in_err-taken c =
    let p = err_from_is_err_and c.from_residual-in_err-taken.result c.from_residual-in_err-taken.ensures.1 in
    let is = c.in_ok-kind.ensures ∙ ap (kind_of c.take_header-language.result) c.command_text.ensures in
    let why = c.in_err-taken.ensures.item in
    rw (p.1, p.2) (are_none c.args.bytes.now c.loop-line.number _ why.0
    (bad_here c.take_header-language.result c.loop-line.number c.in_ok-kind.kind c.in-Some.line.now c.loop-line.lines c.take_line.new.self (items_of (file_lines c.args.bytes.now)) c.in-Some.ensures is why.1 c.loop-line.invariant.bad))

pub loop-line-preserved : goal.loop-line-preserved
loop-line-preserved c =
    let language = c.take_header-language.result in
    let after = c.take_line.new.self in
    let all = items_of (file_lines c.args.bytes.now) in
    let is = c.in_ok-kind.ensures ∙ ap (kind_of language) c.command_text.ensures in
    let size = c.in_ok-taken.ensures.item in
    let left = c.in_ok-taken.ensures.rest in
    record {
      bad = good_behind language c.loop-line.number c.in_ok-kind.kind c.in-Some.line.now c.loop-line.lines after all c.in-Some.ensures is c.in_ok-taken.taken c.skip_item.new.after size.0 left.0 size.1 c.loop-line.invariant.bad;
      shapes = shapes_behind language c.loop-line.number c.in_ok-kind.kind c.in-Some.line.now c.loop-line.lines after all c.in-Some.ensures is c.in_ok-taken.taken c.skip_item.new.after size.0 left.0 c.loop-line.shapes _ c.is_shapes-shapes.result c.is_shapes-shapes.ensures refl c.loop-line.invariant.shapes;
      counted = omega (arith, ap length c.in-Some.ensures, left.1, ap length left.0, length-drop c.in_ok-taken.taken after, c.loop-line.invariant.counted);
    }

pub returns : goal.returns
returns c =
    let none = c.in_default.ensures.0 in
    let language = c.take_header-language.result in
    let items = ap (items_after language 0 c.loop-line.number) none in
    are_commands c.args.bytes.now c.loop-line.shapes (sym (ap first_bad items) ∙ c.loop-line.invariant.bad)
    (sym (or-false c.loop-line.shapes) ∙ sym (ap (λ (items : List Item). c.loop-line.shapes || any_shapes items) items) ∙ c.loop-line.invariant.shapes)
