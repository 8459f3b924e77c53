use Rattle.std.proofs.Common.{string_bytes}
use Rattle.std.proofs.lemmas.Result.{on_ok_weaker}
use Rattle.rdf_model.specs.NTriples.{term_text}
use Rattle.report_writer.proofs.Joins.{head_lines}
use Rattle.report_writer.proofs.lines.push_head.Goals as goal

pub returns : goal.returns
returns c =
    on_ok_weaker c.push_term_line.result (head_lines (string_bytes c.args.out.now) (string_bytes c.push_three.new.out) (string_bytes c.push_three-2.new.out) (string_bytes c.push_term_line.new.out) c.args.label.now (term_text c.args.focus_node.now) c.in_ok-push_three.ensures c.in_ok-push_three-2.ensures) c.push_term_line.ensures
