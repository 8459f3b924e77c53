use Rattle.command_line.proofs.commands.validate.Goals as goal

pub returns : goal.returns
returns c = c.with_graphs.ensures
