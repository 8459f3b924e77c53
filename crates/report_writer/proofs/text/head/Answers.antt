use Rattle.std.specs.Prelude.{string_bytes}
use Rattle.std.proofs.lemmas.Result.{IfOk-weaker}
use Rattle.report_writer.proofs.Joins.{begun}
use Rattle.report_writer.proofs.text.head.Goals as goal

pub returns : goal.returns
returns c = IfOk-weaker c.format.result _ _ (λ text. begun (string_bytes text) c.is_empty-conforms.result c.args.rows.now c.is_empty-conforms.ensures) c.format.ensures.ok
