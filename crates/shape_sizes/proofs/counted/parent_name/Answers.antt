use Rattle.shape_sizes.proofs.StandIns.{named_by}
use Rattle.shape_sizes.proofs.counted.parent_name.Goals as goal

pub name_in-requires : goal.name_in-requires
name_in-requires c = c.requires.parents.0

pub returns-in_ok-name-in-Some : goal.returns-in_ok-name-in-Some
returns-in_ok-name-in-Some c = named_by c.args.graph.now c.args.parents.now c.args.node.now c.in-Some.parent.now c.in_ok-name-in-Some.name c.in_ok-name-in-Some.ensures (rw c.in-Some.is at c.only_parent.ensures)
