use Rattle.std.proofs.Common.{◌∙◌, ◌++◌, ap, codes, string_bytes}
use Rattle.std.proofs.lemmas.Result.{on_ok_weaker}
use Rattle.report_writer.specs.Report.{listed, term_statements}
use Rattle.report_writer.proofs.Joins.{joined}
use Rattle.report_writer.proofs.ReadLines.{lines_read}
use Rattle.report_writer.proofs.lines.push_result.Goals as goal

pub returns : goal.returns
returns c =
    let label = c.args.label.now in
    on_ok_weaker c.push_messages.result (λ e.
    joined label c.args.row.now _ _ _ (string_bytes c.args.out.now) _ _ _ _ _ _ _
    c.in_ok-push_head.ensures
    c.in_ok-push_result_path.ensures
    (c.in_ok-push_optional.ensures ∙ ap (λ v. string_bytes c.push_result_path.new.out ++ term_statements label (codes "sh:value") (listed v)) c.as_ref.ensures.value)
    c.in_ok-push_severity.ensures
    c.in_ok-push_term_line.ensures
    c.in_ok-push_component.ensures
    e
    ∙ ap (λ lines. string_bytes c.args.out.now ++ lines) (lines_read label c.args.row.now c.args.shape.now c.as_slice.result.now c.as_slice.ensures)) c.push_messages.ensures
