use Rattle.command_line.proofs.commands.verify.Goals as goal

pub returns : goal.returns
returns c = c.with_argument.ensures _ _ c.with_graphs.ensures c.one_name.ensures
