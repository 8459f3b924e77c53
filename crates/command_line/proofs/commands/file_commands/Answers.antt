use Rattle.command_line.proofs.commands.file_commands.Goals as goal

pub returns : goal.returns
returns c = c.with_command.ensures _ _ (c.with_command-command-2.ensures _ _ (c.with_command-command.ensures _ _ c.store_commands.ensures c.validate.ensures) c.explain.ensures) c.verify.ensures
