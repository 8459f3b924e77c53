use Rattle.std.proofs.Common.{◌≡◌}
use Rattle.log_command.specs.Nodes.{first_numbers}
use Rattle.log_command.proofs.nodes.first_numbers.Given as goal

abbrev pub invariant-loop-before : goal.invariant-loop-before
invariant-loop-before l = l.numbers ≡ first_numbers l.records l.before
