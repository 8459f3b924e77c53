use Rattle.std.proofs.Common.{codes, string_bytes}
use Rattle.report_writer.specs.Report.{component_name}
use Rattle.report_writer.proofs.Escapes.{on_ok_pushed}
use Rattle.report_writer.proofs.Joins.{component_line}
use Rattle.report_writer.proofs.lines.push_component.Goals as goal

pub returns : goal.returns
returns c = on_ok_pushed c.push_str.result (string_bytes c.push_str.new.self) (string_bytes c.push_three.new.out) (codes "ConstraintComponent .\n") (component_line (string_bytes c.args.out.now) (string_bytes c.push_three.new.out) (string_bytes c.push_str.new.self) c.args.label.now c.name_of-name.result.now (component_name c.args.component) c.name_of-name.ensures c.in_ok-push_three.ensures) c.push_str.ensures.bytes
