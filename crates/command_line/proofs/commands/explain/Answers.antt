use Rattle.command_line.proofs.commands.explain.Goals as goal

pub returns : goal.returns
returns c = c.with_graphs.ensures
