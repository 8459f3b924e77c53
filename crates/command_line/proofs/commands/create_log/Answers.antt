use Rattle.command_line.proofs.commands.create_log.Goals as goal

pub returns : goal.returns
returns c = c.with_argument.ensures _ _ c.named.ensures c.one_name.ensures
