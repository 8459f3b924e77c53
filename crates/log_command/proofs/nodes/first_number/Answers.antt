use Rattle.std.proofs.Common.{arith}
use Rattle.log_command.specs.Nodes.{terms_in}
use Rattle.log_command.proofs.Greatest.{greatest_within}
use Rattle.log_command.proofs.nodes.first_number.Goals as goal

pub overflow_add-result : goal.overflow_add-result
overflow_add-result c = omega (arith, c.greatest_in.ensures, greatest_within c.args.session (terms_in c.args.records.now) c.requires)
