use Rattle.command_line.proofs.commands.run.Goals as goal

pub returns : goal.returns
returns c = c.with_argument.ensures _ _ (c.with_argument-command.ensures _ _ c.with_limits.ensures c.option.ensures) c.names.ensures
