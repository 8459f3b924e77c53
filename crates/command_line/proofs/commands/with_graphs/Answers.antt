use Rattle.command_line.proofs.commands.with_graphs.Goals as goal

pub returns : goal.returns
returns c = c.with_argument.ensures _ _ (c.with_argument-command.ensures _ _ c.named.ensures c.one_name.ensures) c.one_name-2.ensures
