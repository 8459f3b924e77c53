use Rattle.shape_references.proofs.RankedNodes.{rising_step, tells}
use Rattle.shape_references.proofs.loops.finds_loop.Goals as goal

pub returns-then-rises : goal.returns-then-rises
returns-then-rises c = λ t got. rising_step c.args.graph.now c.args.steps.now c.args.ranks.now c.args.index t _ c.requires.steps got (c.rises.ensures.0 c.if-rises.true) (c.requires.level c.if-level.true)

pub returns : goal.returns
returns c = λ t got. tells c.args.graph.now c.args.index t _ c.in_ok-found.found got c.in_ok-found.ensures
