use Rattle.std.proofs.Common.{◌∙◌}
use Rattle.log_command.proofs.Greatest.{spent_by_records}
use Rattle.log_command.proofs.nodes.is_spent.Goals as goal

pub returns : goal.returns
returns c = c.have_record_past_most.ensures ∙ spent_by_records c.args.records.now
