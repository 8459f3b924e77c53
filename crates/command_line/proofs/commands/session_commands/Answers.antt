use Rattle.command_line.proofs.commands.session_commands.Goals as goal

pub returns : goal.returns
returns c = c.with_command.ensures _ _ (c.with_command-command.ensures _ _ c.program.ensures c.run.ensures) c.replay.ensures
