use Rattle.command_line.proofs.commands.store_commands.Goals as goal

pub returns : goal.returns
returns c = c.with_command.ensures _ _ (c.with_command-command.ensures _ _ c.session_commands.ensures c.create_log.ensures) c.follow.ensures
