use Rattle.std.proofs.Common.{subst, sym}
use Rattle.std.specs.List.{AllByRecursion}
use Rattle.log_command.specs.Nodes.{IsFirstNumber}
use Rattle.log_command.proofs.Greatest.{numbers_within}
use Rattle.log_command.proofs.nodes.first_numbers.Goals as goal

pub returns-clause-within : goal.returns-clause-within
returns-clause-within c = subst (AllByRecursion IsFirstNumber) (sym c.loop-before.invariant) (numbers_within c.args.records.now c.loop-before.before c.requires.unspent)
