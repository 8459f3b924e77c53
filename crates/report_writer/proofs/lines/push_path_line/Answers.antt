use Rattle.std.proofs.Common.{codes, string_bytes}
use Rattle.path_ast.specs.PathReadings.{defined_path}
use Rattle.report_writer.specs.PathTexts.{path_text}
use Rattle.report_writer.proofs.Escapes.{on_ok_pushed}
use Rattle.report_writer.proofs.Joins.{path_line}
use Rattle.report_writer.proofs.lines.push_path_line.Goals as goal

pub returns : goal.returns
returns c = on_ok_pushed c.push_str.result (string_bytes c.push_str.new.self) (string_bytes c.push_path.new.out) (codes " .\n") (path_line (string_bytes c.args.out.now) (string_bytes c.push_three.new.out) (string_bytes c.push_path.new.out) (string_bytes c.push_str.new.self) c.args.label.now (path_text (defined_path c.args.path.now)) c.in_ok-push_three.ensures c.in_ok-push_path.ensures) c.push_str.ensures.bytes
