use Rattle.shape_sizes.proofs.StandIns.{apart_names, no_names}
use Rattle.shape_sizes.proofs.stand_ins.named_parents.Goals as goal

pub returns-then-are_apart : goal.returns-then-are_apart
returns-then-are_apart c = (c.in_ok-parents.ensures, apart_names c.args.graph.now c.args.shapes.now c.in_ok-parents.parents.items c.requires.shapes (c.are_apart.ensures c.if-are_apart.true))

pub returns : goal.returns
returns c = no_names c.args.graph.now _ c.new.ensures.items
