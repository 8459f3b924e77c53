use Rattle.std.proofs.Common.{arith}
use Rattle.session_reader.proofs.line_check.skip_block.Goals as goal

pub overflow_add-result : goal.overflow_add-result
overflow_add-result c = omega (arith, c.in-Some.ensures.rest.1, c.requires)
