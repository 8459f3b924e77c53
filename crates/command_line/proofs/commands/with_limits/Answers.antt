use Rattle.command_line.proofs.commands.with_limits.Goals as goal

pub returns : goal.returns
returns c = c.with_argument.ensures _ _ (c.with_argument-command-2.ensures _ _ (c.with_argument-command.ensures _ _ c.named.ensures c.option.ensures) c.option-2.ensures) c.option-3.ensures
